-- The loop's invariant: the places stand, and the passes for fewer than m first regions are done.
use Rattle.std.proofs.Common.{◌^◌}
use Rattle.checker.specs.Words.{claim_of}
use Rattle.matrix.specs.Arranged.{Placed}
use Rattle.matrix.proofs.Placing.{Ranking}
use Rattle.matrix.proofs.order.place_all.Given as goal

abbrev pub invariant-loop-m : goal.invariant-loop-m
invariant-loop-m l = record {
  placed_lem : Placed (claim_of l.words) l.placed l.order l.n;
  ranking : Ranking (claim_of l.words) l.needed l.reach (2 ^ l.shape.sets) l.placed l.order l.n l.upto l.m;
}
