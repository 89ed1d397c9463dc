-- A claim without sets and its sentence agree: node by node, let by let, quantifier by quantifier.
-- Assumes nothing.
use mathlib.Core.Path.{◌≡◌, refl, sym, ap, ◌∙◌}
use mathlib.Core.Logic.{◌↔◌}
use mathlib.Core.Bool.{Bool, true, false, not, cond, true≢false}
use mathlib.Core.List.{List, [], ◌∷◌, ◌++◌}
use Prim.Native.Nat.{ℕ, zero, suc}
use native.Mathlib.Omega.{arith}
use borrow.Author.Tests.{eq-eqb}
use lib.Dec.{leb-suc-zero, eqb}
use lib.IntN.{ℤ, pos, negsuc}
use lib.ListN.{length, get_or}
use lib.Signed.{lt_z, non_neg}
use Rattle.checker.specs.Claim.{Node, set_var, empty, whole, union, inter, compl, num_var, const, maxc, sum, diff, multiple, card, equal, less, divided, set_equal, subset, conj, disj, neg, unknown, Quantifier, int_q, set_q, count_q, Claim}
use Rattle.checker.specs.Sorts.{sets}
use Rattle.checker.specs.Meaning.{Value, num, truth, as_num, as_truth, num_at, truth_at, divides, ports, value_of, values, matrix, Quantified, Holds, Subset}
use Rattle.region.proofs.Quantified.{quantified_same}
use Rattle.sentence.specs.Smt.{the_size, variable, result, Expr, named, says, Env, bind, eval, Guarded, Means}
use Rattle.sentence.specs.Sentences.{plain, AllPlain, node, whole_number, divisible, expr_of, not_negative, lets, closed, sized}
use Rattle.sentence.proofs.Lists.{get_d_snoc, length-snoc}
use Rattle.sentence.proofs.Modulo.{divides_positive, divides_negative}

-- ---- values that every operator takes alike

-- So a child of the wrong sort needs no case of its own, and the theorem asks nothing of sorts.
pub record Like (v u : Value) : Type 0 where
  pub number : as_num v ≡ as_num u
  pub bool : as_truth v ≡ as_truth u

like_same : {v u : Value} → v ≡ u → Like v u
like_same e = record { number = ap as_num e; bool = ap as_truth e }

like_cond : (b : Bool) {v u x y : Value} → Like v u → Like x y → Like (cond b v x) (cond b u y)
like_cond true l m = l
like_cond false l m = m

-- ---- the names stand for what the claim's values are

-- `us` are the values of the quantifiers, `vs` those of the nodes so far
pub record Agrees (N : ℕ) (env : Env) (us vs : List Value) : Type 0 where
  pub size : env the_size ≡ num (pos N)
  pub variables : (i : ℕ) → Like (env (variable i)) (get_or us i (truth false))
  pub untrue : (i : ℕ) → as_truth (env (variable i)) ≡ false
  pub results : (i : ℕ) → Like (env (result i)) (get_or vs i (truth false))

bind_result : (N : ℕ) (env : Env) (us vs : List Value) (v u : Value) → Agrees N env us vs → Like v u
    → Agrees N (bind env (result (length vs)) v) us (vs ++ u ∷ [])
bind_result N env us vs v u a l =
    record {
      size = a.size;
      variables = a.variables;
      untrue = a.untrue;
      results = λ j. rw (get_d_snoc vs u (truth false) j) (like_cond (eqb (length vs) j) l (a.results j));
    }

number_untrue : (b : Bool) (k : ℤ) (v : Value) → as_truth v ≡ false → as_truth (cond b (num k) v) ≡ false
number_untrue true k v e = refl
number_untrue false k v e = e

bind_variable : (N : ℕ) (env : Env) (us vs : List Value) (k : ℤ) → Agrees N env us vs
    → Agrees N (bind env (variable (length us)) (num k)) (us ++ num k ∷ []) vs
bind_variable N env us vs k a =
    record {
      size = a.size;
      variables = λ j. rw (get_d_snoc us (num k) (truth false) j) (like_cond (eqb (length us) j) (like_same refl) (a.variables j));
      untrue = λ j. number_untrue (eqb (length us) j) k (env (variable j)) (a.untrue j);
      results = a.results;
    }

-- ---- a node's expression has the node's value

whole_number_is : (env : Env) (c : ℤ) → eval env (whole_number c) ≡ num c
whole_number_is env (pos k) = refl
whole_number_is env (negsuc k) = refl

divisible_is : (env : Env) (c : ℤ) (e : Expr) → eval env (divisible c e) ≡ truth (divides c (as_num (eval env e)))
divisible_is env (pos zero) e = unfold divides in refl
divisible_is env (pos (suc k)) e = ap truth (divides_positive (as_num (eval env e)) k)
divisible_is env (negsuc k) e = ap truth (divides_negative (as_num (eval env e)) k)

module _ (N : ℕ) (env : Env) (us vs : List Value) (a : Agrees N env us vs) where
  number_at : (i : ℕ) → as_num (env (result i)) ≡ num_at vs i
  unfolding num_at
  number_at i = (a.results i).number

  truth_at_lem : (i : ℕ) → as_truth (env (result i)) ≡ truth_at vs i
  unfolding truth_at
  truth_at_lem i = (a.results i).bool

  variable_at : (q : ℕ) → as_num (env (variable q)) ≡ num_at us q
  unfolding num_at
  variable_at q = (a.variables q).number

  node_is : (n : Node) → plain n ≡ true → Like (eval env (expr_of n)) (value_of (ports N) us vs n)
  unfolding value_of
  node_is (set_var q) p = absurd (true≢false (sym p))
  node_is empty p = absurd (true≢false (sym p))
  node_is whole p = absurd (true≢false (sym p))
  node_is (union x y) p = absurd (true≢false (sym p))
  node_is (inter x y) p = absurd (true≢false (sym p))
  node_is (compl x) p = absurd (true≢false (sym p))
  node_is (num_var q) p = record { number = variable_at q; bool = a.untrue q }
  node_is (const c) p = like_same (whole_number_is env c)
  node_is maxc p = like_same a.size
  node_is (sum x y) p = like_same (rw (number_at x, number_at y))
  node_is (diff x y) p = like_same (rw (number_at x, number_at y))
  node_is (multiple c y) p = like_same (rw (whole_number_is env c, number_at y))
  node_is (card x) p = absurd (true≢false (sym p))
  node_is (equal x y) p = like_same (rw (number_at x, number_at y))
  node_is (less x y) p = like_same (rw (number_at x, number_at y))
  node_is (divided c y) p = like_same (divisible_is env c (node y) ∙ rw (number_at y))
  node_is (set_equal x y) p = absurd (true≢false (sym p))
  node_is (subset x y) p = absurd (true≢false (sym p))
  node_is (conj x y) p = like_same (rw (truth_at_lem x, truth_at_lem y))
  node_is (disj x y) p = like_same (rw (truth_at_lem x, truth_at_lem y))
  node_is (neg x) p = like_same (rw (truth_at_lem x))
  node_is unknown p = absurd (true≢false (sym p))

-- ---- the lets

lets_mean : (N r : ℕ) (ns : List Node) (env : Env) (us vs : List Value) → Agrees N env us vs → AllPlain ns
    → Means env (lets (length vs) ns (says (node r))) ↔ (truth_at (values (ports N) us vs ns) r ≡ true)
unfolding lets values truth_at
lets_mean N r [] env us vs a p = let e = (a.results r).bool in ((λ h. sym e ∙ h), (λ h. e ∙ h))
lets_mean N r (n ∷ ns) env us vs a (p, ps) =
    let v = eval env (expr_of n) in
    let u = value_of (ports N) us vs n in
    rw (length-snoc vs u)
    at (lets_mean N r ns (bind env (result (length vs)) v) us (vs ++ u ∷ []) (bind_result N env us vs v u a (node_is N env us vs a n p)) ps)

-- ---- the quantifiers

-- An integer that is at least 0, by `and` for exists and by `=>` for all, is a count.
counted_iff : (some : Bool) (t : ℤ → Bool) (P : ℤ → Type 0) (Q : ℕ → Type 0) → ((z : ℤ) → t z ≡ non_neg z) → ((k : ℕ) → P (pos k) ↔ Q k)
    → Quantified some ℤ (λ z. Guarded some (t z ≡ true) (P z)) ↔ Quantified some ℕ Q
counted_iff true t P Q e f = ((λ h. go h.0 h.1.0 h.1.1), (λ h. (pos h.0, (e (pos h.0), (f h.0).1 h.1))))
  where
    go : (z : ℤ) → t z ≡ true → P z → Quantified true ℕ Q
    go (pos k) b p = (k, (f k).0 p)
    go (negsuc k) b p = absurd (true≢false (sym b ∙ e (negsuc k)))
counted_iff false t P Q e f = ((λ g k. (f k).0 (g (pos k) (e (pos k)))), go)
  where
    go : Quantified false ℕ Q → (z : ℤ) → t z ≡ true → P z
    go g (pos k) b = (f k).1 (g k)
    go g (negsuc k) b = absurd (true≢false (sym b ∙ e (negsuc k)))

pub at_least : (z : ℤ) → not (lt_z z (pos 0)) ≡ non_neg z
at_least (pos zero) = refl
at_least (pos (suc k)) = rw (leb-suc-zero (suc k))
at_least (negsuc k) = refl

variable_at_least : (env : Env) (i : ℕ) (z : ℤ) → as_truth (eval (bind env (variable i) (num z)) (not_negative (named (variable i)))) ≡ non_neg z
variable_at_least env i z = rw (eq-eqb i i refl) (at_least z)

module _ (N : ℕ) (c : Claim) (p : AllPlain c.nodes) where
  pub closed_means : (qs : List Quantifier) (env : Env) (us : List Value) → sets qs ≡ 0 → Agrees N env us []
      → Means env (closed (length us) qs (lets 0 c.nodes (says (node c.root)))) ↔ Holds (Subset N) (λ s. s.members) N c qs us
  unfolding closed matrix sets
  closed_means [] env us h a = lets_mean N c.root c.nodes env us [] a p
  closed_means (int_q some ∷ qs) env us h a =
      quantified_same some (λ k.
      rw (length-snoc us (num k))
      at (closed_means qs (bind env (variable (length us)) (num k)) (us ++ num k ∷ []) h (bind_variable N env us [] k a)))
  closed_means (set_q some ∷ qs) env us h a = absurd (omega arith)
  closed_means (count_q some ∷ qs) env us h a =
      counted_iff some _ _ _ (variable_at_least env (length us)) (λ k.
      rw (length-snoc us (num (pos k)))
      at (closed_means qs (bind env (variable (length us)) (num (pos k))) (us ++ num (pos k) ∷ []) h (bind_variable N env us [] (pos k) a)))

pub agrees_start : (N : ℕ) → Agrees N (sized N) [] []
agrees_start N = record { size = refl; variables = λ i. like_same refl; untrue = λ i. refl; results = λ i. like_same refl }
