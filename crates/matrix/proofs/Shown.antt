-- The number that is worked out for a node shows its value, where the numbers of its children show theirs. Assumes nothing.
use mathlib.Core.Path.{◌≡◌, refl, sym, ap, ap₂, ◌∙◌}
use mathlib.Core.Bool.{Bool, true, false, not, ◌&&◌, ◌||◌}
use mathlib.Core.List.{List}
use Prim.Native.Nat.{ℕ, zero, suc, ◌+◌}
use native.Mathlib.Omega.{arith}
use borrow.Author.Tests.{ne_eqb}
use lib.Dec.{eqb}
use lib.IntN.{ℤ, pos, ◌+ℤ◌, ◌-ℤ◌, ◌*ℤ◌}
use lib.ListN.{get_or}
use lib.Signed.{lt_z}
use Rattle.checker.specs.declared.Sort.TheVariants.{ATerm, AFormula}
use Rattle.checker.specs.Claim.{Node, set_var, empty, whole, union, inter, compl, num_var, const, maxc, sum, diff, multiple, card, equal, less, divided, set_equal, subset, conj, disj, neg, unknown, Quantifier}
use Rattle.checker.specs.Words.{word}
use Rattle.checker.specs.Sorts.{sort, Is, Fits}
use Rattle.checker.specs.Meaning.{Value, truth, num_at, truth_at, set_at, divides, eq_z, value_of}
use Rattle.region.specs.Regions.{minus, over, regions}
use Rattle.region.proofs.Covered.{over_exclusive}
use Rattle.matrix.specs.Final.{final_values}
use Rattle.matrix.specs.Entry.{entry_of}
use Rattle.matrix.specs.Work.{children, Every, bit_z, says, work}
use Rattle.matrix.specs.Known.{shows}
use Rattle.matrix.proofs.Bounded.{final_num}

-- no port in two sets of regions together
none_both : (x y : ℕ) → eqb (x + y) 0 ≡ (eqb x 0 && eqb y 0)
none_both zero y = ap (λ n. eqb n 0) (let e : 0 + y ≡ y = omega arith in e)
none_both (suc x) y = ne_eqb (suc x + y) 0 (λ e. omega arith) ∙ sym (ap (λ t. t && eqb y 0) (ne_eqb (suc x) 0 (λ e. omega arith)))

-- ---- the numbers of children

pub says_bit : (t : Bool) → eq_z (bit_z t) (pos 1) ≡ t
says_bit true = refl
says_bit false = refl

module _ (done : List Node) (vs : List Value) (xs : List ℤ) where
  -- node a's number shows its value
  abbrev Right : ℕ → Type 0
  Right a = shows (sort (get_or done a unknown)) (word xs a) (get_or vs a (truth false))

  term : (a : ℕ) → Is ATerm done a → Right a → word xs a ≡ num_at vs a
  unfolding num_at
  term a (l, s) r = rw s at r

  formula : (a : ℕ) → Is AFormula done a → Right a → says xs a ≡ truth_at vs a
  unfolding truth_at
  formula a (l, s) r = ap (λ x. eq_z x (pos 1)) (rw s at r) ∙ says_bit _

  module _ (Q qs : List Quantifier) (cs : List ℕ) where
    -- p ports are in the regions that the node's entry covers
    pub work_shows : (n : Node) (p : ℕ) → p ≡ over (entry_of (final_values Q) vs n) cs → Fits qs done n → Every Right (children n)
        → shows (sort n) (work (over (λ r. true) cs) p xs n) (value_of (regions cs) (final_values Q) vs n)
    unfolding work value_of entry_of children
    work_shows (set_var q) p e f r = tt
    work_shows empty p e f r = tt
    work_shows whole p e f r = tt
    work_shows (union a b) p e f r = tt
    work_shows (inter a b) p e f r = tt
    work_shows (compl a) p e f r = tt
    work_shows (num_var q) p e f r = sym (final_num Q q)
    work_shows (const c) p e f r = refl
    work_shows maxc p e f r = refl
    work_shows (sum a b) p e f r = ap₂ ◌+ℤ◌ (term a f.0 r.0) (term b f.1 r.1.0)
    work_shows (diff a b) p e f r = ap₂ ◌-ℤ◌ (term a f.0 r.0) (term b f.1 r.1.0)
    work_shows (multiple c b) p e f r = ap (λ y. c *ℤ y) (term b f r.0)
    work_shows (card a) p e f r = ap pos e
    work_shows (equal a b) p e f r = ap₂ (λ x y. bit_z (eq_z x y)) (term a f.0 r.0) (term b f.1 r.1.0)
    work_shows (less a b) p e f r = ap₂ (λ x y. bit_z (lt_z x y)) (term a f.0 r.0) (term b f.1 r.1.0)
    work_shows (divided c b) p e f r = ap (λ y. bit_z (divides c y)) (term b f r.0)
    work_shows (set_equal a b) p e f r =
        ap bit_z (ap (λ n. eqb n 0) (e ∙ over_exclusive cs (set_at vs a) (set_at vs b)) ∙ none_both (over (minus (set_at vs a) (set_at vs b)) cs) (over (minus (set_at vs b) (set_at vs a)) cs))
    work_shows (subset a b) p e f r = ap (λ n. bit_z (eqb n 0)) e
    work_shows (conj a b) p e f r = ap₂ (λ x y. bit_z (x && y)) (formula a f.0 r.0) (formula b f.1 r.1.0)
    work_shows (disj a b) p e f r = ap₂ (λ x y. bit_z (x || y)) (formula a f.0 r.0) (formula b f.1 r.1.0)
    work_shows (neg a) p e f r = ap (λ x. bit_z (not x)) (formula a f r.0)
    work_shows unknown p e f r = absurd f
