-- What a search is given, and what stands while it goes from split to split. Assumes nothing.
use Rattle.std.specs.Prelude.{◌≡◌, Bool, List, ℕ, ◌+◌, ◌-◌, ◌^◌, ◌≤◌, ◌<◌, ℤ, length, take}
use Rattle.checker.specs.Words.{claim_of}
use Rattle.checker.specs.Sorts.{sets}
use Rattle.checker.specs.Check.{max_sets}
use Rattle.matrix.specs.Entry.{Filled}
use Rattle.matrix.specs.Order.{Has, Order}
use Rattle.matrix.specs.Known.{Ready, Known, Scheduled}
use Rattle.decider.specs.Rule.{Ruling, rule}
use Rattle.decider.specs.Plan.{plan_of}
use Rattle.decider.specs.Decision.{max_size}
use Rattle.decider.specs.Standing.{Total, finals, Somes}

-- A claim in words at a size, its patterns, an order of `rows` nodes, for each number of first final regions how many places of the order these
-- settle, and for each split whether it belongs to an exists.
pub record Setting : Type 0 where
  pub words : List ℤ
  pub patterns : List ℕ
  pub order : List ℕ
  pub upto : List ℕ
  pub somes : List Bool
  pub rows : ℕ
  pub regions : ℕ
  pub root : ℕ
  pub size : ℕ

-- All of that is as it is said to be, and the claim can be worked out at the size.
pub record Settles (s : Setting) : Type 0 where
  pub ready : Ready s.words s.size
  pub small : s.size ≤ max_size
  pub filled : Filled (claim_of s.words) (length (claim_of s.words).nodes) s.patterns
  pub ordered : Order (claim_of s.words) s.order s.rows
  pub rooted : Has s.order s.rows s.root × (s.root ≡ (claim_of s.words).root)
  pub final : s.regions ≡ 2 ^ sets (claim_of s.words).quantifiers
  pub few : s.regions ≤ 2 ^ max_sets
  pub long : (s.regions ≤ length s.somes) × (s.regions ≤ length s.upto)
  pub quantified : Somes s.somes (claim_of s.words).quantifiers s.regions
  pub scheduled : Scheduled s.patterns s.regions s.order s.rows s.upto

-- Split h is next, and the regions from h on have all ports. The first `known` places of the order have the values that the final regions settle
-- which stand, and there is room for the counts and values to come.
pub record Stands (s : Setting) (h known : ℕ) (counts : List ℕ) (values : List ℤ) : Type 0 where
  pub place : (0 < h) × (h ≤ s.regions)
  pub total : Total counts h s.size
  pub few : known ≤ s.rows
  pub shown : Known (claim_of s.words) s.size (finals s.regions h counts) s.order known values
  pub roomy : (s.regions + s.regions ≤ length counts) × (length (claim_of s.words).nodes ≤ length values)

-- the rule from split h on
abbrev pub ruling_from : Setting → ℕ → List ℕ → Ruling
ruling_from s h counts = rule (plan_of (claim_of s.words)) (s.regions - h) h (take (h + h) counts)
