use Rattle.std.proofs.Common.{w32, lit<, arith}
use Rattle.std.proofs.lemmas.Int.{to_z-of_z}
use Rattle.checker.specs.Meaning.{divides}
use Rattle.matrix.proofs.Words.{bits_pos, divides_is}
use Rattle.matrix.proofs.numbers.divided.Goals as goal

pub returns-then-c-ne0 : goal.returns-then-c-ne0
returns-then-c-ne0 c = rw (to_z-of_z w32 c.args.t c.ranges.t, to_z-of_z w32 c.args.c c.ranges.c) (divides_is w32 c.args.c c.args.t c.if-c-ne0.true (omega arith))

pub returns-else-c-ne0 : goal.returns-else-c-ne0
unfolding divides
returns-else-c-ne0 c = rw (c.if-c-ne0.false, bits_pos w32 c.args.c 0 c.ranges.c (lit< tt) c.if-c-ne0.false)
