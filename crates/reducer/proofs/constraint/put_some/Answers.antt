-- `reducer::constraint::put_some` meets its contract: the constraint, and then the `and`. Assumes nothing.
use Prim.Native.Nat.{◌-◌}
use native.Mathlib.Omega.{arith}
use Rattle.checker.specs.Claim.{conj}
use Rattle.emission.proofs.Writing.{as_node, nodes_after, nodes_then, room_part, room_after}
use Rattle.reducer.specs.Closing.{constraint_in}
use Rattle.reducer.proofs.Constraints.{constraint_some, some_parts}
use borrow.Author.Rules.{rules}
use Rattle.reducer.proofs.constraint.put_some.Goals as goal

pub put_constraint-and-requires : goal.put_constraint-and-requires
put_constraint-and-requires c = (room_part _ (omega arith) c.requires.0, c.requires.1)

pub put_join-requires : goal.put_join-requires
put_join-requires c =
    let put = c.put_constraint-and.ensures in
    (room_after 1 (omega arith) c.requires.0 put, omega (arith, nodes_after put, constraint_some c.args.frame c.args.body.nodes), search rules, c.requires.2)

pub returns : goal.returns
returns c =
    let a = c.args in
    let put = c.put_constraint-and in
    let next = as_node (conj (put.result - 1) a.body.root) c.put_join.ensures.wrote in record {
      wrote_nodes = nodes_then (some_parts (constraint_in a.frame a.body.nodes) a.body.nodes a.body.root put.result (nodes_after put.ensures)) put.ensures next;
      root_value = omega (arith, nodes_after next);
    }
