-- The loop's invariant: the bounds of the nodes passed stand in the array, and none of them is too large.
use Rattle.std.proofs.Common.{◌≡◌, ℕ, ◌≤◌, length, get_or, take}
use Rattle.checker.specs.Words.{claim_of}
use Rattle.checker.proofs.Search.{Upto}
use Rattle.matrix.specs.Bound.{max_bound, over_bound}
use Rattle.matrix.specs.Bound as spec
use Rattle.matrix.proofs.bound.first_over.Given as goal

abbrev pub invariant-loop-i : goal.invariant-loop-i
invariant-loop-i l = record {
  stand : take l.i l.bounds ≡ take l.i (spec.bounds l.size (claim_of l.words).nodes);
  small : (j : ℕ) → get_or (take l.i l.bounds) j 0 ≤ max_bound;
  upto : Upto (over_bound l.size (claim_of l.words)) (length (claim_of l.words).nodes) l.i;
}
