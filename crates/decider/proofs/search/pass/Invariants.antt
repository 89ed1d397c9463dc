use Rattle.decider.specs.Standing.{Passed}
use Rattle.decider.proofs.search.pass.Given as goal

abbrev pub invariant-loop-here : goal.invariant-loop-here
invariant-loop-here l = Passed l.regions l.h l.initial.counts l.here l.counts
