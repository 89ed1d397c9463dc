-- `solver::text::put_closing` meets its contract: in the loop the brackets so far are put. Assumes nothing.
use Rattle.sentence.specs.Lines.{closing}
use Rattle.solver.proofs.text.put_closing.Given as goal

abbrev pub invariant-loop : goal.invariant-loop
invariant-loop g l = g.S.Sink.took l.initial.sink (closing l.counter) l.sink
