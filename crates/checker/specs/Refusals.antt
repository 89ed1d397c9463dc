-- The number and the place of each refusal (01, "Refusal numbers, in the order they are tested"; 21 is of the reader of solver texts). Assumes nothing.
use Rattle.std.specs.Prelude.{ℕ}
use Rattle.checker.specs.declared.refusals.Refusal.{Refusal}
use Rattle.checker.specs.declared.refusals.Refusal.TheVariants as refused

unfoldable pub number_of : Refusal → ℕ
number_of refused.Unread = 0
number_of refused.Unmarked = 1
number_of (refused.Count p) = 2
number_of refused.Length = 3
number_of (refused.UnknownQuantifier p) = 4
number_of (refused.TooManySets p) = 5
number_of (refused.BadNode p) = 6
number_of (refused.BadRoot p) = 7
number_of (refused.TooShort p) = 8
number_of refused.LargeSize = 9
number_of (refused.OverNumbers p) = 10
number_of (refused.LargeBound p) = 11
number_of refused.LargeNumber = 12
number_of refused.Unwritten = 21

-- the place, or the words or bytes needed where an output is too short
unfoldable pub place_of : Refusal → ℕ
place_of refused.Unread = 0
place_of refused.Unmarked = 0
place_of (refused.Count p) = p
place_of refused.Length = 0
place_of (refused.UnknownQuantifier p) = p
place_of (refused.TooManySets p) = p
place_of (refused.BadNode p) = p
place_of (refused.BadRoot p) = p
place_of (refused.TooShort p) = p
place_of refused.LargeSize = 0
place_of (refused.OverNumbers p) = p
place_of (refused.LargeBound p) = p
place_of refused.LargeNumber = 0
place_of refused.Unwritten = 0
