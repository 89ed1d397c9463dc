-- The constraints in the parts in which they are written.
-- Assumes nothing.
use mathlib.Core.Path.{◌≡◌, refl, ◌∙◌}
use mathlib.Core.List.{List, [], ◌∷◌, ◌++◌, append-nil}
use Prim.Native.Nat.{ℕ, ◌+◌, ◌*◌, ◌-◌, ◌^◌, ◌%◌, ◌≤◌}
use native.Mathlib.Nat.{one-mul}
use native.Mathlib.Omega.{arith}
use lib.Dec.{lit<}
use lib.ListN.{length}
use lib.Pow.{shl_exact, pow_pos}
use Rattle.checker.specs.Claim.{Node, num_var, sum, equal, conj, disj, neg}
use Rattle.checker.specs.Check.{max_sets}
use Rattle.emission.specs.declared.Frame as code
use Rattle.emission.specs.Emission.{Place, counts, region_node, last, five, further_fives, constraint}
use Rattle.emission.specs.Plan.{place_in}
use Rattle.emission.proofs.Lengths.{constraint-length}
use Rattle.reducer.specs.Closing.{constraint_in}

-- ---- a region

pub five-length : (p q : Place) (at r : ℕ) → length (five p q at r) ≡ 5
unfolding five
five-length p q at r = refl

-- `without` and `within` are the parts; `outside`, `inside` and `total` are the nodes of these and of their sum
pub five_parts : (p : Place) (first at r without within outside inside total : ℕ) → without ≡ first + 2 * r → within ≡ without + 1
    → outside ≡ at + 1 → inside ≡ outside + 1 → total ≡ inside + 1
    → five p (counts first) at r
    ≡ (region_node p r ∷ []) ++ ((num_var without ∷ []) ++ ((num_var within ∷ []) ++ ((sum outside inside ∷ []) ++ (equal at total ∷ []))))
unfolding five
five_parts p first at r without within outside inside total lo hi o i t =
    let hi' : within ≡ first + (2 * r + 1) = omega arith in
    let i' : inside ≡ at + 2 = omega arith in
    let t' : total ≡ at + 3 = omega arith in
    rw (lo, hi', o, i', t')

-- `join` is the node after the five
pub further_parts : (p q : Place) (at r join : ℕ) → join ≡ at + 5 → five p q at r ++ conj (at - 1) (at + 4) ∷ [] ≡ five p q at r ++ (conj (at - 1) (join - 1) ∷ [])
further_parts p q at r join e =
    let same : join - 1 ≡ at + 4 = omega arith in
    rw same

-- ---- all regions

-- a shift of 1, where no bit is lost
pub regions_are : (e : ℕ) → e ≤ max_sets → 1 * 2 ^ e % 2 ^ 64 ≡ 2 ^ e
regions_are e h = shl_exact 1 e 64 (lit< tt) (omega arith) ∙ one-mul (2 ^ e)

pub constraint_one : (p q : Place) (at : ℕ) → constraint p q at 1 ≡ five p q at 0
unfolding constraint further_fives
constraint_one p q at = append-nil (five p q at 0)

module _ (f : code.Frame) (at : ℕ) where
  pub constraint_long : length (constraint_in f at) + 1 ≡ 6 * 2 ^ f.level
  unfolding constraint_in
  constraint_long = constraint-length (place_in f) (counts f.next) at (2 ^ f.level) (pow_pos f.level)

  -- the constraint of r parent regions is the whole where there are as many
  pub constraint_whole : (r : ℕ) → r ≡ 2 ^ f.level → constraint_in f at ≡ constraint (place_in f) (counts f.next) at r
  unfolding constraint_in
  constraint_whole r e = rw e

  pub constraint_some : 1 ≤ length (constraint_in f at)
  constraint_some = omega (arith, constraint_long, pow_pos f.level)

-- ---- with the body; `join` is the node after the constraint

module _ (run : List Node) (at body join : ℕ) (e : join ≡ at + length run) where
  pub some_parts : run ++ conj (last at run) body ∷ [] ≡ run ++ (conj (join - 1) body ∷ [])
  some_parts = rw e

  pub all_parts : run ++ neg (last at run) ∷ disj (at + length run) body ∷ [] ≡ run ++ ((neg (join - 1) ∷ []) ++ (disj join body ∷ []))
  all_parts = rw e
