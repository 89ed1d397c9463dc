use mathlib.Core.Path.{refl}
use Prim.Native.Nat.{◌-◌}
use native.Mathlib.Omega.{arith}
use Rattle.checker.specs.Claim.{sum}
use Rattle.emission.proofs.Writing.{as_node, nodes_then, room_after}
use Rattle.emission.proofs.run.put_summand.Goals as goal

-- src/run.rt:24:5
pub put_node-requires : goal.put_node-requires
put_node-requires c =
    let put = c.put_region-next.ensures in
    (room_after 1 (omega arith) c.requires.0 put, omega arith, omega (arith, c.requires.0.numbers), omega (arith, c.requires.0.numbers))

-- src/run.rt:19:1
pub returns : goal.returns
returns c =
    let a = c.args in
    nodes_then refl c.put_region-next.ensures (as_node (sum (a.at - 1) a.at) c.put_node.ensures)
