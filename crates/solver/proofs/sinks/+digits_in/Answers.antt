-- `solver::sinks::digits_in` meets its contract: a digit less where the last is left out. Assumes nothing.
use Rattle.std.proofs.Common.{arith, length-append, ◌/◌}
use Rattle.decimal.proofs.Decimals.{decimal_small, decimal_step, decimal_short}
use Rattle.solver.proofs.sinks.+digits_in.Goals as goal

pub overflow_add-result : goal.overflow_add-result
overflow_add-result t c = record { fits = omega (arith, c.digits_in.ensures, decimal_short (c.args.n / 10) (omega arith)) }

pub returns-then-n-lt10 : goal.returns-then-n-lt10
returns-then-n-lt10 t c = rw (decimal_small c.args.n (omega arith))

pub returns-else-n-lt10 : goal.returns-else-n-lt10
returns-else-n-lt10 t c = rw (decimal_step c.args.n (omega arith), length-append, ← c.digits_in.ensures)
