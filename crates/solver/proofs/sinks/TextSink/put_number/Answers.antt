-- `solver::sinks::TextSink::put_number` meets its contract: no number of 64 bits has more than twenty digits. Assumes nothing.
use Rattle.std.proofs.Common.{arith}
use Rattle.decimal.proofs.Decimals.{decimal_short}
use Rattle.solver.proofs.sinks.TextSink.put_number.Goals as goal

pub put_decimal-self-requires : goal.put_decimal-self-requires
put_decimal-self-requires c =
    record { fits = omega (arith, decimal_short c.args.n (omega arith), c.saturating_sub.ensures, c.if-saturating_sub-ge-DIGITS.true) }
