-- `reducer::constraint::put_constraint` meets its contract: the constraint of r regions is written before turn r. Assumes nothing.
use mathlib.Core.Path.{◌≡◌}
use Prim.Native.Nat.{◌+◌, ◌*◌, ◌-◌, ◌^◌, ◌<◌}
use native.Mathlib.Omega.{arith}
use lib.Pow.{pow_pos}
use Rattle.emission.specs.Emission.{counts}
use Rattle.emission.specs.Plan.{place_in}
use Rattle.emission.proofs.Lengths.{constraint-length}
use Rattle.emission.proofs.Steps.{constraint_step}
use Rattle.emission.proofs.Writing.{nodes_after, nodes_long, nodes_then, room_part, room_after}
use Rattle.reducer.proofs.Constraints.{regions_are, constraint_one, constraint_long, constraint_whole}
use Rattle.reducer.proofs.constraint.put_constraint.Goals as goal

pub put_five-here-requires : goal.put_five-here-requires
put_five-here-requires c =
    let a = c.args in
    let within = c.requires.1 in
    let some = pow_pos a.frame.level in (
      room_part 5 (omega (arith, constraint_long a.frame a.at, some)) c.requires.0,
      omega (arith, within.regions),
      omega (arith, within.parts, some),
    )

pub loop-r-init : goal.loop-r-init
loop-r-init c = rw (← constraint_one _ _ _) at c.put_five-here.ensures

pub put_further-here-requires : goal.put_further-here-requires
put_further-here-requires c =
    let loop = c.loop-r in
    let a = c.args in
    let within = c.requires.1 in
    let all = regions_are a.frame.level within.level in
    let less = c.loop-r-test.true in
    let long = constraint-length (place_in a.frame) (counts a.frame.next) a.at loop.r (omega arith) in (
      room_after 6 (omega (arith, long, constraint_long a.frame a.at, all, less)) c.requires.0 loop.invariant,
      omega (arith, nodes_after loop.invariant, long),
      omega (arith, within.regions, all, less),
      omega (arith, within.parts, all, less),
    )

pub loop-r-preserved : goal.loop-r-preserved
loop-r-preserved c =
    let loop = c.loop-r in
    let a = c.args in
    let p = place_in a.frame in
    let q = counts a.frame.next in
    let some : 0 < loop.r = omega arith in
    let after : loop.here ≡ a.at + (6 * loop.r - 1) = omega (arith, nodes_after loop.invariant, constraint-length p q a.at loop.r some) in
    nodes_then (constraint_step p q a.at loop.r loop.here some after) loop.invariant c.put_further-here.ensures

pub shape_of-out : goal.shape_of-out
shape_of-out c = nodes_long c.loop-r.invariant

pub returns : goal.returns
returns c =
    let loop = c.loop-r in
    let a = c.args in
    let all : loop.r ≡ 2 ^ a.frame.level = omega (arith, regions_are a.frame.level c.requires.1.level, pow_pos a.frame.level) in
    rw (constraint_whole a.frame a.at loop.r all) loop.invariant
