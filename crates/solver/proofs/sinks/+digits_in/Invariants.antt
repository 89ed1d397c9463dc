-- `solver::sinks::digits_in`: the measure is the number. Assumes nothing.
use Rattle.solver.proofs.sinks.+digits_in.Given as goal

abbrev pub decreases-digits_in : goal.decreases-digits_in
decreases-digits_in l = l.n
