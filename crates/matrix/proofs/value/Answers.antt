use Rattle.std.proofs.Common.{arith}
use Rattle.std.proofs.lemmas.Bool.Decides.{nat_tests}
use Rattle.std.proofs.lemmas.Int.{to_z-of_z}
use Rattle.matrix.proofs.Words.{number_bits}
use Rattle.matrix.proofs.Worked.{two_readable, second_readable, first_readable, work_small, worked}
use Rattle.matrix.proofs.value.Goals as goal

pub child-requires : goal.child-requires
child-requires c = grind (arith, nat_tests, to_z-of_z, number_bits, two_readable c.requires.workable)

pub child-requires-in-13 : goal.child-requires-in-13
child-requires-in-13 c = grind (arith, nat_tests, to_z-of_z, number_bits, two_readable c.requires.workable)

pub child-requires-in-14 : goal.child-requires-in-14
child-requires-in-14 c = grind (arith, nat_tests, to_z-of_z, number_bits, two_readable c.requires.workable)

pub child-requires-in-14-2 : goal.child-requires-in-14-2
child-requires-in-14-2 c = grind (arith, nat_tests, to_z-of_z, number_bits, two_readable c.requires.workable)

pub child-requires-in-20 : goal.child-requires-in-20
child-requires-in-20 c = grind (arith, nat_tests, to_z-of_z, number_bits, two_readable c.requires.workable)

pub child-requires-in-20-2 : goal.child-requires-in-20-2
child-requires-in-20-2 c = grind (arith, nat_tests, to_z-of_z, number_bits, two_readable c.requires.workable)

pub child-requires-in-21 : goal.child-requires-in-21
child-requires-in-21 c = grind (arith, nat_tests, to_z-of_z, number_bits, two_readable c.requires.workable)

pub child-requires-in-21-2 : goal.child-requires-in-21-2
child-requires-in-21-2 c = grind (arith, nat_tests, to_z-of_z, number_bits, two_readable c.requires.workable)

pub yes-requires : goal.yes-requires
yes-requires c = grind (arith, nat_tests, to_z-of_z, number_bits, two_readable c.requires.workable)

pub yes-requires-in-25 : goal.yes-requires-in-25
yes-requires-in-25 c = grind (arith, nat_tests, to_z-of_z, number_bits, two_readable c.requires.workable)

pub yes-requires-in-26 : goal.yes-requires-in-26
yes-requires-in-26 c = grind (arith, nat_tests, to_z-of_z, number_bits, two_readable c.requires.workable)

pub yes-requires-in-26-2 : goal.yes-requires-in-26-2
yes-requires-in-26-2 c = grind (arith, nat_tests, to_z-of_z, number_bits, two_readable c.requires.workable)

pub child-requires-in-15 : goal.child-requires-in-15
child-requires-in-15 c = grind (arith, nat_tests, to_z-of_z, number_bits, second_readable c.requires.workable)

pub child-requires-in-22 : goal.child-requires-in-22
child-requires-in-22 c = grind (arith, nat_tests, to_z-of_z, number_bits, second_readable c.requires.workable)

pub divided-requires : goal.divided-requires
divided-requires c = grind (arith, nat_tests, to_z-of_z, number_bits, second_readable c.requires.workable)

pub yes-requires-in-27 : goal.yes-requires-in-27
yes-requires-in-27 c = grind (arith, nat_tests, to_z-of_z, number_bits, first_readable c.requires.workable)

pub overflow_cast-result : goal.overflow_cast-result
overflow_cast-result c = grind (arith, nat_tests, to_z-of_z, number_bits, work_small c.requires.workable)

pub overflow_cast-result-in-16 : goal.overflow_cast-result-in-16
overflow_cast-result-in-16 c = grind (arith, nat_tests, to_z-of_z, number_bits, work_small c.requires.workable)

pub overflow_add-result : goal.overflow_add-result
overflow_add-result c = grind (arith, nat_tests, to_z-of_z, number_bits, work_small c.requires.workable)

pub overflow_sub-result : goal.overflow_sub-result
overflow_sub-result c = grind (arith, nat_tests, to_z-of_z, number_bits, work_small c.requires.workable)

pub overflow_mul-result : goal.overflow_mul-result
overflow_mul-result c = grind (arith, nat_tests, to_z-of_z, number_bits, work_small c.requires.workable)

pub returns-in-11 : goal.returns-in-11
returns-in-11 c = grind (arith, nat_tests, to_z-of_z, number_bits, worked c.requires.workable)

pub returns-in-12 : goal.returns-in-12
returns-in-12 c = grind (arith, nat_tests, to_z-of_z, number_bits, worked c.requires.workable)

pub returns-in-13 : goal.returns-in-13
returns-in-13 c = grind (arith, nat_tests, to_z-of_z, number_bits, worked c.requires.workable)

pub returns-in-14 : goal.returns-in-14
returns-in-14 c = grind (arith, nat_tests, to_z-of_z, number_bits, worked c.requires.workable)

pub returns-in-15 : goal.returns-in-15
returns-in-15 c = grind (arith, nat_tests, to_z-of_z, number_bits, worked c.requires.workable)

pub returns-in-16 : goal.returns-in-16
returns-in-16 c = grind (arith, nat_tests, to_z-of_z, number_bits, worked c.requires.workable)

pub returns-in-20 : goal.returns-in-20
returns-in-20 c = grind (arith, nat_tests, to_z-of_z, number_bits, worked c.requires.workable)

pub returns-in-21 : goal.returns-in-21
returns-in-21 c = grind (arith, nat_tests, to_z-of_z, number_bits, worked c.requires.workable)

pub returns-in-22 : goal.returns-in-22
returns-in-22 c = grind (arith, nat_tests, to_z-of_z, number_bits, worked c.requires.workable)

pub returns-in-23 : goal.returns-in-23
returns-in-23 c = grind (arith, nat_tests, to_z-of_z, number_bits, worked c.requires.workable)

pub returns-in-24 : goal.returns-in-24
returns-in-24 c = grind (arith, nat_tests, to_z-of_z, number_bits, worked c.requires.workable)

pub returns-in-25 : goal.returns-in-25
returns-in-25 c = grind (arith, nat_tests, to_z-of_z, number_bits, worked c.requires.workable)

pub returns-in-26 : goal.returns-in-26
returns-in-26 c = grind (arith, nat_tests, to_z-of_z, number_bits, worked c.requires.workable)

pub returns-in-27 : goal.returns-in-27
returns-in-27 c = grind (arith, nat_tests, to_z-of_z, number_bits, worked c.requires.workable)

pub returns-in_default : goal.returns-in_default
returns-in_default c = grind (arith, nat_tests, to_z-of_z, number_bits, worked c.requires.workable)
