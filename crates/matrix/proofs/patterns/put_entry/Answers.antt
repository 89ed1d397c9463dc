-- What is stored for each kind is what the node's entry has to cover, since the entries of its operands are their sets.
use mathlib.Core.Bool.{xor}
use Rattle.std.proofs.Common.{arith}
use Rattle.std.proofs.lemmas.Bool.Decides.{nat_tests}
use Rattle.checker.proofs.Claims.{sound}
use Rattle.matrix.proofs.Filling.{variable_before, one_before, two_before, variable_covered, one_covered, two_covered, filled_next}
use Rattle.matrix.proofs.patterns.put_entry.Goals as goal

pub position-requires-clause-q_lt_quantifiers : goal.position-requires-clause-q_lt_quantifiers
position-requires-clause-q_lt_quantifiers c = grind (arith, nat_tests, variable_before c.requires)

pub put_union-requires : goal.put_union-requires
put_union-requires c = grind (arith, nat_tests, two_before c.requires)

pub put_intersection-requires : goal.put_intersection-requires
put_intersection-requires c = grind (arith, nat_tests, two_before c.requires)

pub put_exclusive-requires : goal.put_exclusive-requires
put_exclusive-requires c = grind (arith, nat_tests, two_before c.requires)

pub put_difference-requires : goal.put_difference-requires
put_difference-requires c = grind (arith, nat_tests, two_before c.requires)

pub put_complement-requires : goal.put_complement-requires
put_complement-requires c = grind (arith, nat_tests, one_before c.requires)

pub put_union-requires-in-16 : goal.put_union-requires-in-16
put_union-requires-in-16 c = grind (arith, nat_tests, one_before c.requires)

pub returns-in-1-clause-filled : goal.returns-in-1-clause-filled
returns-in-1-clause-filled c = filled_next c.requires _ _ c.put_variable.ensures (λ w r. grind (arith, nat_tests, variable_covered c.requires r, (sound _ _ c.requires.accepted).sets))

pub returns-in-3-clause-filled : goal.returns-in-3-clause-filled
returns-in-3-clause-filled c = filled_next c.requires _ _ c.put_whole.ensures (λ w r. grind (arith, nat_tests, (sound _ _ c.requires.accepted).sets))

pub returns-in-4-clause-filled : goal.returns-in-4-clause-filled
returns-in-4-clause-filled c = filled_next c.requires _ _ c.put_union.ensures (λ w r. grind (arith, nat_tests, two_covered c.requires w r))

pub returns-in-5-clause-filled : goal.returns-in-5-clause-filled
returns-in-5-clause-filled c = filled_next c.requires _ _ c.put_intersection.ensures (λ w r. grind (arith, nat_tests, two_covered c.requires w r))

pub returns-in-6-clause-filled : goal.returns-in-6-clause-filled
returns-in-6-clause-filled c = filled_next c.requires _ _ c.put_complement.ensures (λ w r. grind (arith, nat_tests, one_covered c.requires w r, (sound _ _ c.requires.accepted).sets))

pub returns-in-16-clause-filled : goal.returns-in-16-clause-filled
returns-in-16-clause-filled c = filled_next c.requires _ _ c.put_union-in-16.ensures (λ w r. grind (arith, nat_tests, one_covered c.requires w r))

pub returns-in-23-clause-filled : goal.returns-in-23-clause-filled
unfolding xor
returns-in-23-clause-filled c = filled_next c.requires _ _ c.put_exclusive.ensures (λ w r. grind (arith, nat_tests, two_covered c.requires w r))

pub returns-in-24-clause-filled : goal.returns-in-24-clause-filled
returns-in-24-clause-filled c = filled_next c.requires _ _ c.put_difference.ensures (λ w r. grind (arith, nat_tests, two_covered c.requires w r))

pub returns-in_default-clause-filled : goal.returns-in_default-clause-filled
returns-in_default-clause-filled c = filled_next c.requires _ _ c.put_empty.ensures (λ w r. grind (arith, nat_tests, (sound _ _ c.requires.accepted).sets))
