-- What the quantifiers give, as the code keeps it: in a lent table of three numbers a quantifier, and three more.
-- Assumes nothing.
use Rattle.std.specs.Prelude.{◌≡◌, List, ℕ, zero, suc, ◌+◌, ◌*◌, ◌≤◌, length, get_or, take}
use Rattle.checker.specs.Claim.{Quantifier}
use Rattle.checker.specs.Sorts.{sets}
use Rattle.emission.specs.declared.Frame as code
use Rattle.emission.specs.Emission.{Place, size, counts, start, inside_all}

-- where the counts of the regions of `level` sets stand, region 0 being quantifier `first`
abbrev pub place_at : ℕ → ℕ → Place
place_at zero first = size
place_at (suc level) first = counts first

abbrev pub place_in : code.Frame → Place
place_in f = place_at f.level f.first

-- 0 where there are no counts
abbrev pub first_of : Place → ℕ
first_of size = 0
first_of (counts first) = first

-- f says what the quantifiers qs give to what is inside them.
pub record Says (qs : List Quantifier) (f : code.Frame) : Type 0 where
  pub next : f.next ≡ (inside_all start qs).next
  pub level : f.level ≡ sets qs
  pub first : f.first ≡ first_of (inside_all start qs).place

-- entry j of a plan
abbrev pub frame_at : List ℕ → ℕ → code.Frame
frame_at plan j = record { next = get_or plan (3 * j) 0; level = get_or plan (3 * j + 1) 0; first = get_or plan (3 * j + 2) 0 }

-- For each of the quantifiers qs the plan has what those outside it give, and then what all of them give.
pub record Planned (plan : List ℕ) (qs : List Quantifier) : Type 0 where
  pub long : 3 * length qs + 3 ≤ length plan
  pub says : (j : ℕ) → j ≤ length qs → Says (take j qs) (frame_at plan j)
