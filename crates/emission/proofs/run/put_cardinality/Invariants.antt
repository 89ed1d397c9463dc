use mathlib.Core.Path.{◌≡◌}
use Prim.Native.Nat.{◌+◌, ◌*◌, ◌-◌, ◌≤◌}
use lib.ListN.{length}
use Rattle.region.specs.Pattern.{regions_from}
use Rattle.emission.specs.Emission.{sum_run}
use Rattle.emission.specs.Plan.{place_in}
use Rattle.emission.specs.Write.{Room}
use Rattle.emission.proofs.Writing.{RestNodes}
use Rattle.emission.proofs.run.put_cardinality.Given as goal

abbrev pub invariant-loop-done : goal.invariant-loop-done
invariant-loop-done l = record {
  left : l._done + length (regions_from l.patterns l.i l.from) ≡ l.n;
  behind : 1 ≤ l.here;
  room : Room l.out l.here (2 * length (regions_from l.patterns l.i l.from));
  rest : RestNodes l.out l.here (sum_run (place_in l.frame) (l.here - 1) (regions_from l.patterns l.i l.from))
      l.initial.out l.initial.here (sum_run (place_in l.frame) (l.initial.here - 1) (regions_from l.patterns l.i l.initial.from));
}
