-- A signed word: what the machine's test of the sign says of its cast, and what is no negative word. Assumes nothing.
use mathlib.Core.Path.{◌≡◌, refl}
use mathlib.Core.Bool.{false, true≢false}
use Prim.Native.Nat.{◌<◌}
use native.Mathlib.Nat.{lt_irrefl}
use lib.Dec.{T}
use lib.IntN.{ℤ, pos, negsuc, nat_abs}
use lib.Signed.{lt_z, non_neg}
use mir.Syntax.{w32, w64}
use mir.Val.{Fits, SFits}
use mir.Facts.{Fits-nat_abs}
use Rattle.checker.specs.Kinds.{no_number, number}

pub cast_fits : (z : ℤ) → lt_z z (pos 0) ≡ false → SFits w32 z → T (non_neg z) × Fits w64 (nat_abs z)
cast_fits (pos n) e f = (tt, Fits-nat_abs tt f)
cast_fits (negsuc n) e f = absurd (true≢false e)

-- for those who read the word itself: what is a number is that number
pub number_is : (z : ℤ) → number z < no_number → z ≡ pos (number z)
unfolding number
number_is (pos n) h = refl
number_is (negsuc n) h = absurd (lt_irrefl _ h)
