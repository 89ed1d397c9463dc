-- The loop's invariant: the places stand, and the nodes before i are passed.
use Rattle.checker.specs.Words.{claim_of}
use Rattle.matrix.specs.Arranged.{Placed}
use Rattle.matrix.proofs.Placing.{Passing}
use Rattle.matrix.proofs.order.place.Given as goal

abbrev pub invariant-loop-i : goal.invariant-loop-i
invariant-loop-i l = record {
  placed_lem : Placed (claim_of l.words) l.placed l.order l.n;
  passing : Passing (claim_of l.words) l.needed l.reach l.m l.initial.order l.rows l.placed l.order l.n l.i;
}
