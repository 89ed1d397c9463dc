-- The loop's invariant: the root is marked, and the children of each marked node from i on.
use Rattle.std.proofs.Common.{◌≡◌, true}
use Rattle.checker.specs.Words.{claim_of}
use Rattle.matrix.specs.Arranged.{marked}
use Rattle.matrix.proofs.Marks.{ClosedFrom}
use Rattle.matrix.proofs.order.mark_needed.Given as goal

abbrev pub invariant-loop-i : goal.invariant-loop-i
invariant-loop-i l = record { root : marked l.marks l.fn.shape.root ≡ true; closed : ClosedFrom (claim_of l.words) l.marks l.i }
