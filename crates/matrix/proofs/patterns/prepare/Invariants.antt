-- The loop's invariant: the entries of the nodes passed stand, and those beyond are as they were.
use Rattle.checker.specs.Words.{claim_of}
use Rattle.matrix.specs.Entry.{Filled, Beyond}
use Rattle.matrix.proofs.patterns.prepare.Given as goal

abbrev pub invariant-loop-i : goal.invariant-loop-i
invariant-loop-i l = record { filled : Filled (claim_of l.words) l.i l.patterns; beyond : Beyond l.i l.initial.patterns l.patterns }
