-- `region::whole` meets its contract: all ones, moved down until those are left that there are. Assumes nothing.
use mathlib.Core.Path.{◌≡◌, ◌∙◌}
use Prim.Native.Nat.{ℕ, zero, suc, ◌+◌, ◌-◌, ◌*◌, ◌/◌, ◌^◌, ◌<◌}
use native.Mathlib.Omega.{arith}
use borrow.Author.Tests.{lt-ltb}
use lib.Dec.{ltb, leb-suc-zero}
use Rattle.std.specs.Prelude.{if◌then◌else◌}
use Rattle.std.proofs.lemmas.Bool.Decides.{nat_tests}
use Rattle.region.specs.Pattern.{covers, word_bits}
use Rattle.region.proofs.Bits.{covers_of_zero, covers_top}
use Rattle.region.proofs.Pattern.{sets_few}
use Rattle.region.proofs.form.whole.Goals as goal

down : (n b : ℕ) → b < word_bits → covers (if ltb (64 - n) 64 then (2 ^ 64 - 1) / 2 ^ (64 - n) else 0) b ≡ ltb b n
down zero b h = rw (leb-suc-zero b) (covers_of_zero b)
down (suc n) b h = rw (lt-ltb (64 - suc n) 64 (omega arith)) (covers_top word_bits (suc n) b h)

-- of n regions those from `first` on
cut : (n first b : ℕ) → ltb b (n - first) ≡ ltb (first + b) n
cut n first b = grind (arith, nat_tests)

pub overflow_shl-s : goal.overflow_shl-s
overflow_shl-s c = omega (arith, sets_few c.args.s c.requires.0)

pub returns : goal.returns
returns c b h =
    let left : c.saturating_sub-left.result ≡ 2 ^ c.args.s - word_bits * c.args.j = omega (arith, c.requires.0) in
    rw (c.unbounded_shr.ensures, c.saturating_sub.ensures, left) (down (2 ^ c.args.s - word_bits * c.args.j) b h ∙ cut (2 ^ c.args.s) (word_bits * c.args.j) b)
