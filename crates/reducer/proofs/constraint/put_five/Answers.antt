-- `reducer::constraint::put_five` meets its contract: the five nodes are written one after the other. Assumes nothing.
use mathlib.Core.Path.{refl}
use Prim.Native.Nat.{◌+◌, ◌*◌}
use native.Mathlib.Omega.{arith}
use Rattle.checker.specs.Claim.{num_var, sum, equal}
use Rattle.emission.specs.Plan.{place_in}
use Rattle.emission.proofs.Writing.{as_node, nodes_after, nodes_then, room_after}
use Rattle.reducer.proofs.Constraints.{five_parts}
use borrow.Author.Rules.{rules}
use Rattle.reducer.proofs.constraint.put_five.Goals as goal

pub put_node-inside-requires : goal.put_node-inside-requires
put_node-inside-requires c =
    (room_after 1 (omega arith) c.requires.0 c.put_region-outside.ensures, search rules, omega (arith, c.requires.2), search rules)

pub put_node-sum-requires : goal.put_node-sum-requires
put_node-sum-requires c =
    let a = c.args in
    let room = room_after 4 (omega arith) c.requires.0 c.put_region-outside.ensures in
    let outside = as_node (num_var (a.frame.next + 2 * a.r)) c.put_node-inside.ensures in
    (room_after 1 (omega arith) room outside, search rules, omega (arith, c.requires.2), search rules)

pub put_node-equal-requires : goal.put_node-equal-requires
put_node-equal-requires c =
    let a = c.args in
    let without = a.frame.next + 2 * a.r in
    let room = room_after 4 (omega arith) c.requires.0 c.put_region-outside.ensures in
    let outside = as_node (num_var without) c.put_node-inside.ensures in
    let inside = as_node (num_var (without + 1)) c.put_node-sum.ensures in
    let room2 = room_after 3 (omega arith) room outside in
    (room_after 1 (omega arith) room2 inside, search rules, omega (arith, room.numbers), omega (arith, room2.numbers))

pub put_node-requires : goal.put_node-requires
put_node-requires c =
    let a = c.args in
    let without = a.frame.next + 2 * a.r in
    let region = c.put_region-outside in
    let outside = c.put_node-inside in
    let inside = c.put_node-sum in
    let total = c.put_node-equal in
    let room = room_after 4 (omega arith) c.requires.0 region.ensures in
    let room2 = room_after 3 (omega arith) room (as_node (num_var without) outside.ensures) in
    let room3 = room_after 2 (omega arith) room2 (as_node (num_var (without + 1)) inside.ensures) in (
      room_after 1 (omega arith) room3 (as_node (sum region.result outside.result) total.ensures),
      search rules,
      omega (arith, c.requires.0.numbers),
      omega (arith, room3.numbers),
    )

pub returns : goal.returns
returns c =
    let a = c.args in
    let without = a.frame.next + 2 * a.r in
    let region = c.put_region-outside in
    let outside = c.put_node-inside in
    let inside = c.put_node-sum in
    let total = c.put_node-equal in
    let one = as_node (num_var without) outside.ensures in
    let two = as_node (num_var (without + 1)) inside.ensures in
    let three = as_node (sum region.result outside.result) total.ensures in
    let four = as_node (equal a.at inside.result) c.put_node.ensures in
    let parts =
    five_parts (place_in a.frame) a.frame.next a.at a.r without (without + 1) region.result outside.result inside.result
    refl refl (nodes_after region.ensures) (nodes_after one) (nodes_after two) in
    nodes_then parts region.ensures (nodes_then refl one (nodes_then refl two (nodes_then refl three four)))
