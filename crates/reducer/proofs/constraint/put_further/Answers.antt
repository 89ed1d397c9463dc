-- `reducer::constraint::put_further` meets its contract: the five nodes, and then the `and`. Assumes nothing.
use mathlib.Core.Path.{◌≡◌}
use Prim.Native.Nat.{◌+◌, ◌-◌}
use native.Mathlib.Omega.{arith}
use Rattle.checker.specs.Claim.{conj}
use Rattle.emission.specs.Emission.{counts}
use Rattle.emission.specs.Plan.{place_in}
use Rattle.emission.proofs.Writing.{as_node, nodes_after, nodes_then, room_after}
use Rattle.reducer.proofs.Constraints.{five-length, further_parts}
use borrow.Author.Rules.{rules}
use Rattle.reducer.proofs.constraint.put_further.Goals as goal

pub overflow_sub-and : goal.overflow_sub-and
overflow_sub-and c =
    let a = c.args in
    omega (arith, nodes_after c.put_five-and.ensures, five-length (place_in a.frame) (counts a.frame.next) a.at a.r)

pub put_node-requires : goal.put_node-requires
put_node-requires c =
    let a = c.args in
    let put = c.put_five-and.ensures in
    let long = five-length (place_in a.frame) (counts a.frame.next) a.at a.r in (
      room_after 1 (omega (arith, long)) c.requires.0 put,
      search rules,
      omega (arith, c.requires.0.numbers),
      omega (arith, c.requires.0.numbers, nodes_after put, long),
    )

pub returns : goal.returns
returns c =
    let a = c.args in
    let put = c.put_five-and in
    let after : put.result ≡ a.at + 5 = omega (arith, nodes_after put.ensures, five-length (place_in a.frame) (counts a.frame.next) a.at a.r) in
    nodes_then (further_parts (place_in a.frame) (counts a.frame.next) a.at a.r put.result after)
    put.ensures (as_node (conj (a.at - 1) (put.result - 1)) c.put_node.ensures)
