use Rattle.std.proofs.Common.{ℕ, ◌<◌, get_or}
use Rattle.region.specs.Pattern.{covers_at, End}
use Rattle.matrix.proofs.order.fill_reach.Given as goal

abbrev pub invariant-loop-i : goal.invariant-loop-i
invariant-loop-i l = (j : ℕ) → j < l.i → End (covers_at l.patterns j) (get_or l.reach j 0)
