-- What stands while the search goes from split to split: the counts of the regions in a lent array, by their heap numbers, and what is
-- filled before the first split. Assumes nothing.
use Rattle.std.specs.Prelude.{◌≡◌, Bool, true, false, List, ℕ, ◌+◌, ◌-◌, ◌^◌, ◌≤◌, ◌<◌, get_or, take, drop}
use Rattle.checker.specs.declared.Shape.{Shape}
use Rattle.checker.specs.Claim.{Quantifier, Claim}
use Rattle.region.specs.Regions.{over}
use Rattle.decider.specs.Rule.{rule}
use Rattle.decider.specs.Plan.{some_at, plan_of}

-- ---- counts

-- The regions h, .., 2 h - 1 have so many ports together.
abbrev pub Total : List ℕ → ℕ → ℕ → Type 0
Total counts h size = over (λ r. true) (drop h (take (h + h) counts)) ≡ size

-- The counts of the final regions that stand when split h is next.
abbrev pub finals : ℕ → ℕ → List ℕ → List ℕ
finals regions h counts = drop regions (take (h + h) counts)

-- The regions from h up to r have no ports and are split. The counts below 2 h stand, and the rule at h is the rule at r.
pub record Passed (regions h : ℕ) (before : List ℕ) (r : ℕ) (after : List ℕ) : Type 0 where
  pub from : h ≤ r
  pub upto : r ≤ regions
  pub stands : take (h + h) after ≡ take (h + h) before
  pub total : (size : ℕ) → Total before h size → Total after r size
  pub ruled : (c : Claim) → rule (plan_of c) (regions - h) h (take (h + h) before) ≡ rule (plan_of c) (regions - r) r (take (r + r) after)

-- ---- what is filled before

-- For each split below `end` the table says whether it belongs to an exists.
abbrev pub Somes : List Bool → List Quantifier → ℕ → Type 0
Somes somes qs end = (h : ℕ) → 0 < h → h < end → get_or somes h false ≡ some_at qs 1 h

-- The arrays that a decision is worked out in are long enough for the claim.
pub record Frame (shape : Shape) (order upto somes values counts : ℕ) : Type 0 where
  pub nodes : (shape.nodes ≤ order) × (shape.nodes ≤ values)
  pub regions : (2 ^ shape.sets < upto) × (2 ^ shape.sets ≤ somes) × (2 ^ shape.sets + 2 ^ shape.sets ≤ counts)
