-- A claim without set nodes and set quantifiers is its own emission.
-- Assumes nothing.
use mathlib.Core.Path.{◌≡◌, refl, sym, ◌∙◌, ap, ap₂}
use mathlib.Core.Bool.{false, true≢false, false≢true}
use mathlib.Core.List.{List, [], ◌∷◌, ◌++◌, append_assoc, append-nil}
use Prim.Native.Nat.{ℕ, zero, suc, ◌<◌}
use native.Mathlib.Omega.{arith}
use lib.IntN.{ℤ}
use lib.ListN.{length, get_or, length-append}
use Rattle.checker.specs.declared.Sort.{Sort}
use Rattle.checker.specs.declared.Sort.TheVariants.{ASet}
use Rattle.checker.specs.Claim.{Node, Quantifier, Claim, set_var, empty, whole, union, inter, compl, num_var, const, maxc, sum, diff, multiple, card, equal, less, divided, set_equal, subset, conj, disj, neg, unknown, int_q, set_q, count_q}
use Rattle.checker.specs.Kinds.{is_set}
use Rattle.checker.specs.Words.{claim_of, words_of}
use Rattle.checker.specs.Sorts.{sort, Is, Fits, AllFit, WellSorted, sets}
use Rattle.checker.proofs.Words.{claim_is}
use Rattle.emission.specs.Emission.{Frame, start, with_number, inside_all, becomes, emit_quantifiers, last, run_of, Emitted, emit_node, emit_nodes, Body, close, body, emission}
use Rattle.reducer.specs.Sizes.{NoSetNodes}
use Rattle.reducer.proofs.Lists.{at_each}
use Rattle.reducer.proofs.Stands.{nothing, run_at}

-- ---- no node is a set

no_set_at : (ns : List Node) → NoSetNodes ns → (a : ℕ) → is_set (sort (get_or ns a unknown)) ≡ false
no_set_at [] h a = refl
no_set_at (n ∷ ns) (p, h) zero = p
no_set_at (n ∷ ns) (p, h) (suc a) = no_set_at ns h a

no_set_snoc : (xs : List Node) (n : Node) → NoSetNodes xs → is_set (sort n) ≡ false → NoSetNodes (xs ++ n ∷ [])
no_set_snoc [] n h k = (k, tt)
no_set_snoc (x ∷ xs) n (p, h) k = (p, no_set_snoc xs n h k)

no_child : (done : List Node) → NoSetNodes done → (a : ℕ) → Is ASet done a → ⊥
no_child done h a (l, e) = false≢true (sym (no_set_at done h a) ∙ ap is_set e)

-- ---- quantifiers keep their numbers

record Numbered (done : List Quantifier) (f : Frame) : Type 0 where
  long : length f.numbers ≡ length done
  next : f.next ≡ length done
  same : (q : ℕ) → q < length f.numbers → get_or f.numbers q 0 ≡ q

numbered_more : (done : List Quantifier) (f : Frame) (q : Quantifier) → Numbered done f → Numbered (done ++ q ∷ []) (with_number f)
unfolding with_number
numbered_more done f q h =
    record {
      long = simp length-append (omega (arith, h.long));
      next = simp length-append (omega (arith, h.next));
      same = at_each (λ i y. y ≡ i) f.numbers f.next 0 h.same (h.next ∙ sym h.long);
    }

numbered_all : (qs done : List Quantifier) (f : Frame) → sets qs ≡ 0 → Numbered done f → Numbered (done ++ qs) (inside_all f qs)
unfolding inside_all sets
numbered_all [] done f n h = rw append-nil h
numbered_all (int_q some ∷ qs) done f n h = rw append_assoc at (numbered_all qs (done ++ int_q some ∷ []) (with_number f) n (numbered_more done f (int_q some) h))
numbered_all (set_q some ∷ qs) done f n h = absurd (omega arith)
numbered_all (count_q some ∷ qs) done f n h = rw append_assoc at (numbered_all qs (done ++ count_q some ∷ []) (with_number f) n (numbered_more done f (count_q some) h))

same_quantifiers : (qs : List Quantifier) (f : Frame) → sets qs ≡ 0 → emit_quantifiers f qs ≡ qs
unfolding emit_quantifiers becomes sets
same_quantifiers [] f n = refl
same_quantifiers (int_q some ∷ qs) f n = ap (λ l. (int_q some) ∷ l) (same_quantifiers qs (with_number f) n)
same_quantifiers (set_q some ∷ qs) f n = absurd (omega arith)
same_quantifiers (count_q some ∷ qs) f n = ap (λ l. (count_q some) ∷ l) (same_quantifiers qs (with_number f) n)

no_constraints : (qs : List Quantifier) (f : Frame) (b : Body) → sets qs ≡ 0 → close f qs b ≡ b
unfolding close sets
no_constraints [] f b n = refl
no_constraints (int_q some ∷ qs) f b n = no_constraints qs (with_number f) b n
no_constraints (set_q some ∷ qs) f b n = absurd (omega arith)
no_constraints (count_q some ∷ qs) f b n = no_constraints qs (with_number f) b n

-- ---- nodes keep their numbers

record Same (done : List Node) (e : Emitted) : Type 0 where
  nodes : e.nodes ≡ done
  long : length e.stands ≡ length done
  same : (a : ℕ) → a < length e.stands → get_or e.stands a 0 ≡ a

module _ (qs : List Quantifier) (f : Frame) (num : Numbered qs f) where
  module _ (done : List Node) (e : Emitted) (h : Same done e) (free : NoSetNodes done) where
    child : {s : Sort} (a : ℕ) → Is s done a → get_or e.stands a 0 ≡ a
    child a i = h.same a (omega (arith, h.long, i.0))

    same_run : (n : Node) → is_set (sort n) ≡ false → Fits qs done n → run_at f e n ≡ n ∷ []
    unfolding run_of
    same_run (set_var q) s i = absurd (true≢false s)
    same_run empty s i = absurd (true≢false s)
    same_run whole s i = absurd (true≢false s)
    same_run (union a b) s i = absurd (true≢false s)
    same_run (inter a b) s i = absurd (true≢false s)
    same_run (compl a) s i = absurd (true≢false s)
    same_run (num_var q) s i = ap (λ x. num_var x ∷ []) (num.same q (omega (arith, num.long, i.0)))
    same_run (const c) s i = refl
    same_run maxc s i = refl
    same_run (sum a b) s (i, j) = ap₂ (λ x y. sum x y ∷ []) (child a i) (child b j)
    same_run (diff a b) s (i, j) = ap₂ (λ x y. diff x y ∷ []) (child a i) (child b j)
    same_run (multiple c b) s i = ap (λ x. multiple c x ∷ []) (child b i)
    same_run (card a) s i = absurd (no_child done free a i)
    same_run (equal a b) s (i, j) = ap₂ (λ x y. equal x y ∷ []) (child a i) (child b j)
    same_run (less a b) s (i, j) = ap₂ (λ x y. less x y ∷ []) (child a i) (child b j)
    same_run (divided c b) s i = ap (λ x. divided c x ∷ []) (child b i)
    same_run (set_equal a b) s (i, j) = absurd (no_child done free a i)
    same_run (subset a b) s (i, j) = absurd (no_child done free a i)
    same_run (conj a b) s (i, j) = ap₂ (λ x y. conj x y ∷ []) (child a i) (child b j)
    same_run (disj a b) s (i, j) = ap₂ (λ x y. disj x y ∷ []) (child a i) (child b j)
    same_run (neg a) s i = ap (λ x. neg x ∷ []) (child a i)
    same_run unknown s i = absurd i

  same_step : (done : List Node) (e : Emitted) (n : Node) → Same done e → run_at f e n ≡ n ∷ [] → Same (done ++ n ∷ []) (emit_node f e n)
  unfolding emit_node
  same_step done e n h r =
      record {
        nodes = ap₂ ◌++◌ h.nodes r;
        long = simp length-append (omega (arith, h.long));
        same = at_each (λ a y. y ≡ a) e.stands _ 0 h.same (ap₂ (λ x y. last (length x) y) h.nodes r ∙ omega (arith, h.long));
      }

  same_all : (ns done : List Node) (e : Emitted) → Same done e → NoSetNodes done → NoSetNodes ns → AllFit qs done ns → Same (done ++ ns) (emit_nodes f e ns)
  unfolding emit_nodes
  same_all [] done e h free k i = rw append-nil h
  same_all (n ∷ ns) done e h free (k, ks) (i, is) =
      rw append_assoc at (same_all ns (done ++ n ∷ []) (emit_node f e n) (same_step done e n h (same_run done e h free n k i)) (no_set_snoc done n free k) ks is)

pub unchanged : (c : Claim) → WellSorted c → NoSetNodes c.nodes → sets c.quantifiers ≡ 0 → emission c ≡ c
unfolding emission body nothing start
unchanged c h free none =
    let f = inside_all start c.quantifiers in
    let num : Numbered c.quantifiers f =
    numbered_all c.quantifiers [] start none (record { long = refl; next = refl; same = λ q l. absurd (omega arith) }) in
    let s : Same c.nodes (emit_nodes f nothing c.nodes) =
    same_all c.quantifiers f num c.nodes [] nothing (record { nodes = refl; long = refl; same = λ a l. absurd (omega arith) }) tt free h.0 in
    let b = no_constraints c.quantifiers start (body c) none in
    claim_is (ap (λ x. x.nodes) b ∙ s.nodes) (same_quantifiers c.quantifiers start none) (ap (λ x. x.root) b ∙ s.same c.root (omega (arith, s.long, h.1.0)))

pub words_unchanged : (ws : List ℤ) → WellSorted (claim_of ws) → NoSetNodes (claim_of ws).nodes → sets (claim_of ws).quantifiers ≡ 0
    → words_of (claim_of ws) ≡ ws → words_of (emission (claim_of ws)) ≡ ws
words_unchanged ws h free none same = ap words_of (unchanged (claim_of ws) h free none) ∙ same
