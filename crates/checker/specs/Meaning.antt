-- What a claim says (003, figure 3; 01, "The claim table"): its truth at size N, over subsets of N ports.
-- Assumes nothing.
use Rattle.std.specs.Prelude.{◌≡◌, Bool, true, false, not, cond, ◌&&◌, ◌||◌, List, [], ◌∷◌, ◌++◌, ℕ, zero, suc, ◌+◌, ◌%◌, ◌≤◌, eqb, ℤ, pos, negsuc, nat_abs, ◌+ℤ◌, ◌-ℤ◌, ◌*ℤ◌, get_or}
use Rattle.std.specs.Bool.{beq}
use Rattle.std.specs.Int.Signed.{lt_z}
use Rattle.checker.specs.Claim.{Node, set_var, empty, whole, union, inter, compl, num_var, const, maxc, sum, diff, multiple, card, equal, less, divided, set_equal, subset, conj, disj, neg, unknown, Quantifier, int_q, set_q, count_q, Claim}

-- ---- the value of a node

-- A set is given by its members: ports, as the elements are called here, in the plain meaning, and regions where a claim is worked out over
-- counts.
abbrev pub Set : Type 0
Set = ℕ → Bool

pub data Value : Type 0 where
  set : Set → Value
  num : ℤ → Value
  truth : Bool → Value

abbrev pub as_set : Value → Set
as_set (set s) = s
as_set (num k) = λ p. false
as_set (truth b) = λ p. false

abbrev pub as_num : Value → ℤ
as_num (set s) = pos 0
as_num (num k) = k
as_num (truth b) = pos 0

abbrev pub as_truth : Value → Bool
as_truth (set s) = false
as_truth (num k) = false
as_truth (truth b) = b

unfoldable pub set_at : List Value → ℕ → Set
set_at vs i = as_set (get_or vs i (truth false))

unfoldable pub num_at : List Value → ℕ → ℤ
num_at vs i = as_num (get_or vs i (truth false))

unfoldable pub truth_at : List Value → ℕ → Bool
truth_at vs i = as_truth (get_or vs i (truth false))

-- The sign of `c` does not matter, and 0 divides nothing (01).
unfoldable pub divides : ℤ → ℤ → Bool
divides c t = cond (eqb (nat_abs c) 0) false (eqb (nat_abs t % nat_abs c) 0)

abbrev pub eq_z : ℤ → ℤ → Bool
eq_z (pos m) (pos n) = eqb m n
eq_z (pos m) (negsuc n) = false
eq_z (negsuc m) (pos n) = false
eq_z (negsuc m) (negsuc n) = eqb m n

-- What a value asks of the things that sets hold: how many there are, how many a set has, whether two sets are the same, and whether one lies in the other.
pub record World : Type 0 where
  pub size : ℕ
  pub count : Set → ℕ
  pub same : Set → Set → Bool
  pub within : Set → Set → Bool

-- A node's value, from the quantifiers' values `us` and the earlier nodes' values `vs`.
unfoldable pub value_of : World → List Value → List Value → Node → Value
value_of w us vs (set_var q) = set (set_at us q)
value_of w us vs empty = set (λ p. false)
value_of w us vs whole = set (λ p. true)
value_of w us vs (union a b) = set (λ p. set_at vs a p || set_at vs b p)
value_of w us vs (inter a b) = set (λ p. set_at vs a p && set_at vs b p)
value_of w us vs (compl a) = set (λ p. not (set_at vs a p))
value_of w us vs (num_var q) = num (num_at us q)
value_of w us vs (const c) = num c
value_of w us vs maxc = num (pos w.size)
value_of w us vs (sum a b) = num (num_at vs a +ℤ num_at vs b)
value_of w us vs (diff a b) = num (num_at vs a -ℤ num_at vs b)
value_of w us vs (multiple c b) = num (c *ℤ num_at vs b)
value_of w us vs (card a) = num (pos (w.count (set_at vs a)))
value_of w us vs (equal a b) = truth (eq_z (num_at vs a) (num_at vs b))
value_of w us vs (less a b) = truth (lt_z (num_at vs a) (num_at vs b))
value_of w us vs (divided c b) = truth (divides c (num_at vs b))
value_of w us vs (set_equal a b) = truth (w.same (set_at vs a) (set_at vs b))
value_of w us vs (subset a b) = truth (w.within (set_at vs a) (set_at vs b))
value_of w us vs (conj a b) = truth (truth_at vs a && truth_at vs b)
value_of w us vs (disj a b) = truth (truth_at vs a || truth_at vs b)
value_of w us vs (neg a) = truth (not (truth_at vs a))
value_of w us vs unknown = truth false

-- The values of all nodes, in node order; `vs` are those that stand already.
unfoldable pub values : World → List Value → List Value → List Node → List Value
values w us vs [] = vs
values w us vs (n ∷ ns) = values w us (vs ++ value_of w us vs n ∷ []) ns

-- The claim without its quantifiers, at the quantifiers' values.
unfoldable pub matrix : World → Claim → List Value → Bool
matrix w c us = truth_at (values w us [] c.nodes) c.root

-- ---- truth at size N

abbrev pub bit : Bool → ℕ
bit true = 1
bit false = 0

-- how many of the first n ports are in s
unfoldable pub count : ℕ → Set → ℕ
count zero s = 0
count (suc n) s = count n s + bit (s n)

-- all of the first n ports are in s
unfoldable pub every : ℕ → Set → Bool
every zero s = true
every (suc n) s = every n s && s n

-- The ports 0 .. N - 1. What a set has past those is not looked at.
abbrev pub ports : ℕ → World
ports N =
    record {
      size = N;
      count = count N;
      same = λ a b. every N (λ p. beq (a p) (b p));
      within = λ a b. every N (λ p. not (a p) || b p);
    }

-- For some a in A, or for all.
abbrev pub Quantified : Bool → (A : Type 0) → (A → Type 0) → Type 0
Quantified true A P = (a : A) × P a
Quantified false A P = (a : A) → P a

-- The claim holds at size N, its outer quantifiers having the values `us` and its inner ones being `qs`.
-- Set quantifiers range over F, `members` giving the set that each stands for.
abbrev pub Holds : (F : Type 0) → (F → Set) → ℕ → Claim → List Quantifier → List Value → Type 0
Holds F members N c [] us = matrix (ports N) c us ≡ true
Holds F members N c (int_q some ∷ qs) us = Quantified some ℤ (λ k. Holds F members N c qs (us ++ num k ∷ []))
Holds F members N c (set_q some ∷ qs) us = Quantified some F (λ f. Holds F members N c qs (us ++ set (members f) ∷ []))
Holds F members N c (count_q some ∷ qs) us = Quantified some ℕ (λ k. Holds F members N c qs (us ++ num (pos k) ∷ []))

-- A subset of N ports.
pub record Subset (N : ℕ) : Type 0 where
  pub members : Set
  pub below : (p : ℕ) → N ≤ p → members p ≡ false

-- The truth of a claim at size N: sets range over the subsets of N ports.
abbrev pub TrueAt : ℕ → Claim → Type 0
TrueAt N c = Holds (Subset N) (λ s. s.members) N c c.quantifiers []
