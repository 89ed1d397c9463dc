-- No value of a term exceeds its bound, and where no node is over the limit none is too large for a word. Assumes nothing.
use mathlib.Core.Path.{◌≡◌, refl, sym}
use mathlib.Core.Bool.{true, false}
use mathlib.Core.List.{List, [], ◌∷◌, ◌++◌}
use Prim.Native.Nat.{ℕ, zero, suc, ◌≤◌, ◌<◌, zero-le}
use native.Mathlib.Nat.{le_refl, le_trans, le_of_eq, mul-le-mul_left}
use native.Mathlib.Omega.{arith}
use borrow.Author.Tests.{ltb-false}
use lib.IntN.{pos, nat_abs}
use lib.ListN.{length, get_or, length-append}
use Rattle.checker.specs.Claim.{Node, set_var, empty, whole, union, inter, compl, num_var, const, maxc, sum, diff, multiple, card, equal, less, divided, set_equal, subset, conj, disj, neg, unknown, Quantifier, int_q, set_q, count_q, Claim}
use Rattle.checker.specs.Meaning.{Value, truth, as_num, num_at, value_of, values}
use Rattle.checker.proofs.Search.{first_none}
use Rattle.region.specs.Regions.{over, regions}
use Rattle.region.proofs.Covered.{over_le}
use Rattle.matrix.specs.Bound.{max_bound, bound_of, bounds_after, bounds, over_bound, first_over}
use Rattle.matrix.specs.Final.{final_values}
use Rattle.matrix.specs.Entry.{node_values}
use Rattle.std.proofs.lemmas.Int.{ints, unsigned_abs-mul}

record Under (vs : List Value) (bs : List ℕ) : Type 0 where
  long : length vs ≡ length bs
  le : (j : ℕ) → nat_abs (num_at vs j) ≤ get_or bs j 0

num-snoc : (vs : List Value) (bs : List ℕ) (v : Value) (b : ℕ) → length vs ≡ length bs → ((j : ℕ) → nat_abs (num_at vs j) ≤ get_or bs j 0)
    → nat_abs (as_num v) ≤ b → (j : ℕ) → nat_abs (num_at (vs ++ v ∷ []) j) ≤ get_or (bs ++ b ∷ []) j 0
unfolding num_at
num-snoc [] [] v b e h k zero = k
num-snoc [] [] v b e h k (suc j) = zero-le
num-snoc [] (c ∷ bs) v b e h k j = absurd (omega arith)
num-snoc (u ∷ vs) [] v b e h k j = absurd (omega arith)
num-snoc (u ∷ vs) (c ∷ bs) v b e h k zero = h zero
num-snoc (u ∷ vs) (c ∷ bs) v b e h k (suc j) = num-snoc vs bs v b (omega arith) (λ i. h (suc i)) k j

more : (vs : List Value) (bs : List ℕ) (v : Value) (b : ℕ) → Under vs bs → nat_abs (as_num v) ≤ b → Under (vs ++ v ∷ []) (bs ++ b ∷ [])
more vs bs v b u h = record { long = simp length-append (omega (arith, u.long)); le = num-snoc vs bs v b u.long u.le h }

-- a number variable's value does not matter: the decider refuses it
pub final_num : (qs : List Quantifier) (q : ℕ) → num_at (final_values qs) q ≡ pos 0
unfolding final_values num_at
final_num [] q = refl
final_num (int_q some ∷ qs) zero = refl
final_num (int_q some ∷ qs) (suc q) = final_num qs q
final_num (set_q some ∷ qs) zero = refl
final_num (set_q some ∷ qs) (suc q) = final_num qs q
final_num (count_q some ∷ qs) zero = refl
final_num (count_q some ∷ qs) (suc q) = final_num qs q

module _ (qs : List Quantifier) (cs : List ℕ) (N : ℕ) (total : over (λ r. true) cs ≡ N) where
  value_under : (vs : List Value) (bs : List ℕ) → Under vs bs → (n : Node) → nat_abs (as_num (value_of (regions cs) (final_values qs) vs n)) ≤ bound_of N bs n
  unfolding value_of bound_of
  value_under vs bs u (set_var q) = zero-le
  value_under vs bs u empty = zero-le
  value_under vs bs u whole = zero-le
  value_under vs bs u (union a b) = zero-le
  value_under vs bs u (inter a b) = zero-le
  value_under vs bs u (compl a) = zero-le
  value_under vs bs u (num_var q) = rw (final_num qs q) zero-le
  value_under vs bs u (const c) = le_refl (nat_abs c)
  value_under vs bs u maxc = le_of_eq total
  value_under vs bs u (sum a b) = omega (arith, ints, u.le a, u.le b)
  value_under vs bs u (diff a b) = omega (arith, ints, u.le a, u.le b)
  value_under vs bs u (multiple c b) = le_trans (le_of_eq (unsigned_abs-mul c (num_at vs b))) (mul-le-mul_left (nat_abs c) (u.le b))
  value_under vs bs u (card a) = rw (sym total) (over_le cs _)
  value_under vs bs u (equal a b) = zero-le
  value_under vs bs u (less a b) = zero-le
  value_under vs bs u (divided c b) = zero-le
  value_under vs bs u (set_equal a b) = zero-le
  value_under vs bs u (subset a b) = zero-le
  value_under vs bs u (conj a b) = zero-le
  value_under vs bs u (disj a b) = zero-le
  value_under vs bs u (neg a) = zero-le
  value_under vs bs u unknown = zero-le

  all_under : (vs : List Value) (bs : List ℕ) → Under vs bs → (ns : List Node) → Under (values (regions cs) (final_values qs) vs ns) (bounds_after N bs ns)
  unfolding values bounds_after
  all_under vs bs u [] = u
  all_under vs bs u (n ∷ ns) =
      let v : Value = value_of (regions cs) (final_values qs) vs n in
      all_under (vs ++ v ∷ []) (bs ++ bound_of N bs n ∷ []) (more vs bs v (bound_of N bs n) u (value_under vs bs u n)) ns

none : Under [] []
unfolding num_at
none = record { long = refl; le = λ j. zero-le }

-- no node's bound is over the limit
bound_small : (N : ℕ) (c : Claim) → first_over N c ≡ length c.nodes → (i : ℕ) → i < length c.nodes → get_or (bounds N c.nodes) i 0 ≤ max_bound
unfolding over_bound
bound_small N c e i h = ltb-false max_bound _ (first_none (over_bound N c) (length c.nodes) (le_of_eq (sym e)) i h)

pub value_small : (N : ℕ) (c : Claim) (cs : List ℕ) → over (λ r. true) cs ≡ N → first_over N c ≡ length c.nodes → (i : ℕ) → i < length c.nodes
    → nat_abs (as_num (get_or (node_values (regions cs) c) i (truth false))) ≤ max_bound
unfolding node_values num_at
value_small N c cs total e i h =
    le_trans ((all_under c.quantifiers cs N total [] [] none c.nodes).le i) (bound_small N c e i h)
