-- `reducer::constraint::put_constraints` meets its contract: what the quantifiers from number j on add is written before turn j. Assumes nothing.
use mathlib.Core.Path.{◌≡◌, ap, ◌∙◌}
use Prim.Native.Nat.{ℕ, ◌+◌, ◌-◌, ◌<◌}
use native.Mathlib.Omega.{arith}
use lib.Seq.{drop-length}
use Rattle.checker.specs.Words.{claim_of}
use Rattle.emission.proofs.Writing.{nodes_long, nodes_none, nodes_then, room_after}
use Rattle.reducer.specs.Closing.{closed_from}
use Rattle.reducer.proofs.Joining.{known, closed_none, closed_all, closed_root, added_step, added_room}
use Rattle.reducer.proofs.constraint.put_constraints.Goals as goal

-- one step down and up again
back : (j : ℕ) → 0 < j → j - 1 + 1 ≡ j
back j h = omega arith

pub loop-j-init : goal.loop-j-init
loop-j-init c =
    let none = closed_none (claim_of c.args.words.now) c.args.shape.quantifiers (known c.requires.prepared.0).quantifiers in
    record { tells = rw none c.requires.prepared.1; wrote = rw (none, drop-length) (nodes_none _ _) }

pub put_joined-body-requires : goal.put_joined-body-requires
put_joined-body-requires c =
    let loop = c.loop-j in
    let p = c.requires.prepared.0 in
    let up = back loop.j c.loop-j-test.true in
    let room = added_room (claim_of c.args.words.now) (loop.j - 1) (omega (arith, (known p).quantifiers)) in
    record { prepared = (p, omega arith, rw up loop.invariant.tells); room = rw up (room_after _ (rw up at room) c.requires.room loop.invariant.wrote) }

pub loop-j-preserved : goal.loop-j-preserved
loop-j-preserved c =
    let loop = c.loop-j in
    let up = back loop.j c.loop-j-test.true in
    let step = added_step (claim_of c.args.words.now) (loop.j - 1) (omega (arith, (known c.requires.prepared.0).quantifiers)) in
    let put = c.put_joined-body.ensures in
    record { tells = put.tells; wrote = nodes_then (rw up at step) loop.invariant.wrote (rw up at put.wrote_nodes) }

pub shape_of-out : goal.shape_of-out
shape_of-out c = nodes_long c.loop-j.invariant.wrote

pub returns : goal.returns
returns c =
    let loop = c.loop-j in
    let claim = claim_of c.args.words.now in
    let none : loop.j ≡ 0 = omega arith in
    record {
      wrote_nodes = rw (← closed_all claim, ← none) loop.invariant.wrote;
      root_value = loop.invariant.tells.root ∙ ap (λ j. (closed_from claim j).root) none ∙ closed_root claim;
    }
