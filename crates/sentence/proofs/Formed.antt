-- The commands of a well-sorted claim without sets are well formed, so a solver has no ground to refuse them.
-- Assumes nothing.
use mathlib.Core.Path.{◌≡◌, refl, sym, ap, ◌∙◌}
use mathlib.Core.Bool.{Bool, true, false, cond, true≢false}
use mathlib.Core.List.{List, [], ◌∷◌, ◌++◌, append_assoc, append-nil}
use mathlib.Core.Option.{Option, none, some as just}
use Prim.Native.Nat.{ℕ, zero, suc, ◌+◌, ◌<◌}
use native.Mathlib.Nat.{zero-add, add-zero}
use native.Mathlib.Omega.{arith}
use borrow.Author.Tests.{eqb-false}
use lib.Dec.{eqb}
use lib.IntN.{ℤ, pos, negsuc}
use lib.ListN.{length, get_or}
use Rattle.std.specs.Prelude as claim
use Rattle.std.specs.Prelude.{Some, None}
use Rattle.checker.specs.declared.Sort.{Sort as ClaimSort}
use Rattle.checker.specs.declared.Sort.TheVariants.{ASet, ATerm, AFormula}
use Rattle.checker.specs.Claim.{Node, set_var, empty, whole, union, inter, compl, num_var, const, maxc, sum, diff, multiple, card, equal, less, divided, set_equal, subset, conj, disj, neg, unknown, Quantifier, int_q, set_q, count_q, Claim}
use Rattle.checker.specs.Sorts.{sort, sets, Is, Fits, AllFit, WellSorted}
use Rattle.sentence.specs.Smt.{the_size, variable, result, plus, subtract, times, equals, below, at_least, both, either, Expr, Sentence, says}
use Rattle.sentence.specs.Formed.{Sort, int, bool, Context, unbound, extend, Sorted, of_name, of_numeral, of_false, of_minus, of_not, of_mod, of_two, Formed, WellFormed}
use Rattle.sentence.specs.Sentences.{plain, AllPlain, Plain, node, whole_number, divisible, expr_of, lets, closed, sentence_of, asserted, commands}
use Rattle.sentence.proofs.Lists.{get_d_snoc, length-snoc}

-- ---- terms are of sort Int, formulas of sort Bool

abbrev sort_for : claim.Option ClaimSort → Option Sort
sort_for (Some ASet) = none
sort_for (Some ATerm) = just int
sort_for (Some AFormula) = just bool
sort_for None = none

-- n quantifiers and the nodes `done` are bound
record Bound (n : ℕ) (done : List Node) (g : Context) : Type 0 where
  size : g the_size ≡ just int
  variables : (q : ℕ) → q < n → g (variable q) ≡ just int
  results : (i : ℕ) → g (result i) ≡ sort_for (sort (get_or done i unknown))

-- ---- a node's expression has the node's sort

whole_number_sorted : (g : Context) (c : ℤ) → Sorted g (whole_number c) int
whole_number_sorted g (pos k) = of_numeral k
whole_number_sorted g (negsuc k) = of_minus (of_numeral (suc k))

divisible_sorted : (g : Context) (c : ℤ) (e : Expr) → Sorted g e int → Sorted g (divisible c e) bool
divisible_sorted g (pos zero) e h = of_two both of_false (of_two equals h (of_numeral 0))
divisible_sorted g (pos (suc k)) e h = of_two equals (of_mod k h) (of_numeral 0)
divisible_sorted g (negsuc k) e h = of_two equals (of_numeral 0) (of_mod k h)

module _ (qs : List Quantifier) (done : List Node) (g : Context) (b : Bound (length qs) done g) where
  term : {a : ℕ} → Is ATerm done a → Sorted g (node a) int
  term {a} h = of_name (b.results a ∙ ap sort_for h.1)

  formula : {a : ℕ} → Is AFormula done a → Sorted g (node a) bool
  formula {a} h = of_name (b.results a ∙ ap sort_for h.1)

  node_sorted : (n : Node) → plain n ≡ true → Fits qs done n → (t : Sort) × (just t ≡ sort_for (sort n)) × Sorted g (expr_of n) t
  node_sorted (set_var q) p h = absurd (true≢false (sym p))
  node_sorted empty p h = absurd (true≢false (sym p))
  node_sorted whole p h = absurd (true≢false (sym p))
  node_sorted (union x y) p h = absurd (true≢false (sym p))
  node_sorted (inter x y) p h = absurd (true≢false (sym p))
  node_sorted (compl x) p h = absurd (true≢false (sym p))
  node_sorted (num_var q) p h = (int, refl, of_name (b.variables q h.0))
  node_sorted (const c) p h = (int, refl, whole_number_sorted g c)
  node_sorted maxc p h = (int, refl, of_name b.size)
  node_sorted (sum x y) p h = (int, refl, of_two plus (term h.0) (term h.1))
  node_sorted (diff x y) p h = (int, refl, of_two subtract (term h.0) (term h.1))
  node_sorted (multiple c y) p h = (int, refl, of_two times (whole_number_sorted g c) (term h))
  node_sorted (card x) p h = absurd (true≢false (sym p))
  node_sorted (equal x y) p h = (bool, refl, of_two equals (term h.0) (term h.1))
  node_sorted (less x y) p h = (bool, refl, of_two below (term h.0) (term h.1))
  node_sorted (divided c y) p h = (bool, refl, divisible_sorted g c (node y) (term h))
  node_sorted (set_equal x y) p h = absurd (true≢false (sym p))
  node_sorted (subset x y) p h = absurd (true≢false (sym p))
  node_sorted (conj x y) p h = (bool, refl, of_two both (formula h.0) (formula h.1))
  node_sorted (disj x y) p h = (bool, refl, of_two either (formula h.0) (formula h.1))
  node_sorted (neg x) p h = (bool, refl, of_not (formula h))
  node_sorted unknown p h = absurd (true≢false (sym p))

-- ---- the lets

bound_result : (n : ℕ) (done : List Node) (g : Context) (m : Node) (t : Sort) → Bound n done g → just t ≡ sort_for (sort m)
    → Bound n (done ++ m ∷ []) (extend g (result (length done)) t)
bound_result n done g m t b e =
    record {
      size = b.size;
      variables = b.variables;
      results = λ j. rw (get_d_snoc done m unknown j) (go (eqb (length done) j) j);
    }
  where
    go : (here : Bool) (j : ℕ) → cond here (just t) (g (result j)) ≡ sort_for (sort (cond here m (get_or done j unknown)))
    go true j = e
    go false j = b.results j

lets_formed : (qs : List Quantifier) (r : ℕ) (ns done : List Node) (g : Context) → Bound (length qs) done g → AllPlain ns → AllFit qs done ns
    → Is AFormula (done ++ ns) r → Formed g (lets (length done) ns (says (node r)))
unfolding lets
lets_formed qs r [] done g b p f h = formula qs done g b (rw (append-nil done) at h)
lets_formed qs r (n ∷ ns) done g b (p, ps) (f, fs) h =
    let s = node_sorted qs done g b n p f in (
      s.0,
      s.2,
      rw (length-snoc done n)
          at (lets_formed qs r ns (done ++ n ∷ []) (extend g (result (length done)) s.0) (bound_result (length qs) done g n s.0 b s.1) ps fs (rw (append_assoc done (n ∷ []) ns) h)),
    )

-- ---- the quantifiers

bound_variable : (i : ℕ) (g : Context) → Bound i [] g → Bound (suc i) [] (extend g (variable i) int)
bound_variable i g b = record { size = b.size; variables = λ q h. go q h (eqb i q) refl; results = b.results }
  where
    go : (q : ℕ) → q < suc i → (here : Bool) → eqb i q ≡ here → cond here (just int) (g (variable q)) ≡ just int
    go q h true e = refl
    go q h false e = b.variables q (omega (arith, eqb-false i q e))

next : (i : ℕ) (qs : List Quantifier) → i + suc (length qs) ≡ suc i + length qs
next i qs = omega arith

closed_formed : (i : ℕ) (qs : List Quantifier) (g : Context) (s : Sentence) → sets qs ≡ 0 → Bound i [] g
    → ((k : Context) → Bound (i + length qs) [] k → Formed k s) → Formed g (closed i qs s)
unfolding closed sets
closed_formed i [] g s p b f = f g (rw (add-zero i) b)
closed_formed i (int_q some ∷ qs) g s p b f =
    closed_formed (suc i) qs (extend g (variable i) int) s p (bound_variable i g b) (λ k c. f k (rw (next i qs) c))
closed_formed i (set_q some ∷ qs) g s p b f = absurd (omega arith)
closed_formed i (count_q some ∷ qs) g s p b f =
    let d = bound_variable i g b in (
      of_two at_least (of_name (d.variables i (omega arith))) (of_numeral 0),
      closed_formed (suc i) qs (extend g (variable i) int) s p d (λ k c. f k (rw (next i qs) c)),
    )

-- ---- the theorem

pub well_formed : (c : Claim) → WellSorted c → Plain c → WellFormed unbound (commands c)
unfolding commands asserted sentence_of
well_formed c (fit, root) p = (
  of_two at_least (of_name refl) (of_numeral 0),
  (
    closed_formed 0 c.quantifiers (extend unbound the_size int) (lets 0 c.nodes (says (node c.root))) p.quantifiers
        (record { size = refl; variables = λ q h. absurd (omega arith); results = λ i. refl })
        (λ k b. lets_formed c.quantifiers c.root c.nodes [] k (rw (zero-add (length c.quantifiers)) at b) p.nodes fit root),
    tt,
  ),
)
