-- `region::word` meets its contract: bit by bit, what a form asks of the bits of its operands. Assumes nothing.
use mathlib.Core.Path.{◌≡◌, ◌∙◌, ap₂}
use mathlib.Core.Bool.{Bool, not, xor, ◌&&◌, ◌||◌, and_comm}
use Prim.Native.Nat.{ℕ, ◌+◌, ◌-◌, ◌*◌, ◌^◌, ◌<◌}
use borrow.Author.Tests.{lt-ltb}
use lib.Bits.{bit_and}
use lib.Dec.{ltb}
use Rattle.region.specs.Pattern.{covers, word_bits}
use Rattle.region.proofs.Bits.{covers_of_zero, covers-and, covers-or, covers-xor, covers-not}
use Rattle.region.proofs.form.word.Goals as goal

-- the bits of a word that another has not
minus : (p q b : ℕ) (x y : Bool) → q < 2 ^ word_bits → b < word_bits → covers p b ≡ x → covers q b ≡ y
    → covers (bit_and p (2 ^ word_bits - 1 - q)) b ≡ (x && not y)
minus p q b x y fits h ex ey =
    covers-and p (2 ^ word_bits - 1 - q) b ∙ ap₂ (◌&&◌) ex (covers-not word_bits q b fits ∙ rw (lt-ltb b word_bits h, ey))

pub returns-in-Nothing : goal.returns-in-Nothing
returns-in-Nothing c v w ex ey b h =
    rw c.in-Nothing.is (covers_of_zero b)

pub returns-in-Inside : goal.returns-in-Inside
returns-in-Inside c v w ex ey b h =
    let r = word_bits * c.args.j + b in
    rw c.in-Inside.is
    (covers-and c.inside.result c.whole-in-Inside.result b ∙ ap₂ (◌&&◌) (c.inside.ensures b h) (c.whole-in-Inside.ensures b h)
    ∙ and_comm (covers r _) (ltb r _))

pub returns-in-Union : goal.returns-in-Union
returns-in-Union c v w ex ey b h =
    rw c.in-Union.is (covers-or _ _ b ∙ ap₂ (◌||◌) (ex b h) (ey b h))

pub returns-in-Intersection : goal.returns-in-Intersection
returns-in-Intersection c v w ex ey b h =
    rw c.in-Intersection.is (covers-and _ _ b ∙ ap₂ (◌&&◌) (ex b h) (ey b h))

pub returns-in-Difference : goal.returns-in-Difference
returns-in-Difference c v w ex ey b h =
    rw c.in-Difference.is (minus _ _ b _ _ c.ranges.y.fits h (ex b h) (ey b h))

pub returns-in-Exclusive : goal.returns-in-Exclusive
returns-in-Exclusive c v w ex ey b h =
    rw c.in-Exclusive.is (covers-xor _ _ b ∙ ap₂ xor (ex b h) (ey b h))

pub returns-in-Complement : goal.returns-in-Complement
returns-in-Complement c v w ex ey b h =
    rw c.in-Complement.is (minus _ _ b _ _ c.ranges.x.fits h (c.whole-in-Complement.ensures b h) (ex b h))
