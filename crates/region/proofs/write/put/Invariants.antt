-- `region::put` meets its contract: the entry takes its form word by word, and the words of the operands that are still to be read stand. Assumes nothing.
use Rattle.region.specs.Pattern.{covers_at, covering}
use Rattle.region.proofs.Pattern.{Stored}
use Rattle.region.proofs.write.put.Given as goal

abbrev pub invariant-loop-j : goal.invariant-loop-j
invariant-loop-j l = Stored l.initial.patterns l.i (covering l.form (covers_at l.initial.patterns l.a) (covers_at l.initial.patterns l.b)) l.j l.patterns
