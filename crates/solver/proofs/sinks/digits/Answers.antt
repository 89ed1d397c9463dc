-- `solver::sinks::digits` meets its contract: no number of 64 bits has more than twenty digits. Assumes nothing.
use Rattle.std.proofs.Common.{arith}
use Rattle.decimal.proofs.Decimals.{decimal_short}
use Rattle.solver.proofs.Fronts.{front_is}
use Rattle.solver.proofs.sinks.digits.Goals as goal

pub put_decimal-end-requires : goal.put_decimal-end-requires
put_decimal-end-requires c = record { fits = omega (arith, decimal_short c.args.n (omega arith)) }

pub shared_ref_as_front-result : goal.shared_ref_as_front-result
shared_ref_as_front-result c = omega (arith, c.put_decimal-end.ensures.after, decimal_short c.args.n (omega arith))

pub returns : goal.returns
returns c = front_is c.put_decimal-end.ensures (omega (arith, decimal_short c.args.n (omega arith)))
