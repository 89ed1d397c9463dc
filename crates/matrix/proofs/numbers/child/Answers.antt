-- The word is no negative one, so that it is the index.
use Rattle.std.proofs.Common.{arith}
use Rattle.std.proofs.lemmas.Int.{to_z-of_z}
use Rattle.checker.proofs.Signed.{number_is}
use Rattle.matrix.proofs.numbers.child.Goals as goal

pub overflow_cast-result : goal.overflow_cast-result
overflow_cast-result c = let e = number_is c.args.c c.requires.1 in grind (arith, to_z-of_z)

pub bounds-values-c : goal.bounds-values-c
bounds-values-c c = let e = number_is c.args.c c.requires.1 in grind (arith, to_z-of_z)

pub returns : goal.returns
returns c = let e = number_is c.args.c c.requires.1 in grind (arith, to_z-of_z)
