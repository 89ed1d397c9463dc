-- `reducer::constraint::put_constraint` meets its contract: the constraint of r regions is written before turn r.
use Rattle.emission.specs.Emission.{counts, constraint}
use Rattle.emission.specs.Plan.{place_in}
use Rattle.emission.specs.Write.{WroteNodes}
use Rattle.reducer.proofs.constraint.put_constraint.Given as goal

abbrev pub invariant-loop-r : goal.invariant-loop-r
invariant-loop-r l =
    WroteNodes l.fn.out l.at (constraint (place_in l.frame) (counts l.frame.next) l.at l.r) l.out l.here
