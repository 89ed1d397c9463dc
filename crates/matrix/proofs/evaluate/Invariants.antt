-- The loop's invariant: the places of the order before k are known, and those before `known` are as they were.
use Rattle.checker.specs.Words.{claim_of}
use Rattle.matrix.specs.Known.{Known, Kept}
use Rattle.matrix.proofs.evaluate.Given as goal

abbrev pub invariant-loop-k : goal.invariant-loop-k
invariant-loop-k l = record {
  stands : Known (claim_of l.words) l.size l.counts l.order l.k l.values;
  kept : Kept l.order l.known l.initial.values l.values;
}
