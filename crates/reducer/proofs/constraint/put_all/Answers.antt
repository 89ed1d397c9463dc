-- `reducer::constraint::put_all` meets its contract: the constraint, then the `not`, then the `or`. Assumes nothing.
use mathlib.Core.Path.{◌≡◌, refl}
use Prim.Native.Nat.{◌-◌}
use native.Mathlib.Omega.{arith}
use Rattle.checker.specs.Claim.{disj, neg}
use Rattle.emission.proofs.Writing.{as_node, nodes_after, nodes_then, room_part, room_after}
use Rattle.reducer.specs.Closing.{constraint_in}
use Rattle.reducer.proofs.Constraints.{constraint_some, all_parts}
use borrow.Author.Rules.{rules}
use Rattle.reducer.proofs.constraint.put_all.Goals as goal

pub put_constraint-not-requires : goal.put_constraint-not-requires
put_constraint-not-requires c =
    (room_part _ (omega arith) c.requires.0, c.requires.1)

pub overflow_sub-not : goal.overflow_sub-not
overflow_sub-not c =
    let a = c.args in
    omega (arith, nodes_after c.put_constraint-not.ensures, constraint_some a.frame a.body.nodes)

pub put_node-or-requires : goal.put_node-or-requires
put_node-or-requires c =
    let room = room_after 1 (omega arith) c.requires.0 c.put_constraint-not.ensures in
    (room, search rules, omega (arith, room.numbers), search rules)

pub put_join-requires : goal.put_join-requires
put_join-requires c =
    let put = c.put_constraint-not in
    let room = room_after 2 (omega arith) c.requires.0 put.ensures in
    let other = as_node (neg (put.result - 1)) c.put_node-or.ensures in
    (room_after 1 (omega arith) room other, omega (arith, nodes_after other), search rules, c.requires.2)

pub returns : goal.returns
returns c =
    let a = c.args in
    let put = c.put_constraint-not in
    let or = c.put_node-or in
    let other = as_node (neg (put.result - 1)) or.ensures in
    let back : or.result - 1 ≡ put.result = omega (arith, nodes_after other) in
    let next = as_node (disj put.result a.body.root) (rw back at c.put_join.ensures.wrote) in record {
      wrote_nodes = nodes_then (all_parts (constraint_in a.frame a.body.nodes) a.body.nodes a.body.root put.result (nodes_after put.ensures))
          put.ensures (nodes_then refl other next);
      root_value = omega (arith, nodes_after next);
    }
