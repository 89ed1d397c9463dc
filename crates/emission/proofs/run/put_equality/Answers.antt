use mathlib.Core.Path.{◌≡◌, refl}
use mathlib.Core.List.{List}
use Prim.Native.Nat.{ℕ, ◌+◌, ◌-◌, ◌<◌}
use native.Mathlib.Omega.{arith}
use lib.ListN.{length}
use Rattle.checker.specs.Claim.{conj}
use Rattle.emission.specs.Emission.{Place, empty_run}
use Rattle.emission.specs.Plan.{place_in}
use Rattle.emission.specs.Runs.{without}
use Rattle.emission.proofs.Lengths.{empty_length, both-length}
use Rattle.emission.proofs.Parts.{both_parts}
use Rattle.emission.proofs.Sets.{without_spared}
use Rattle.emission.proofs.Writing.{as_node, nodes_after, nodes_then, room_part, room_after}
use borrow.Author.Rules.{rules}
use Rattle.emission.proofs.run.put_equality.Goals as goal

apart : {x i : ℕ} → x < i → x ≡ i → ⊥
apart h e = omega arith

pub put_within-second-requires-clause-room : goal.put_within-second-requires-clause-room
put_within-second-requires-clause-room c =
    let a = c.args in
    let rs : List ℕ = without a.patterns.now a.a a.b in
    let ss : List ℕ = without a.patterns.now a.b a.a in
    let p : Place = place_in a.frame in
    room_part _ (omega (arith, empty_length p rs a.at, both-length p rs ss a.at)) c.requires.room

pub put_within-join-requires-clause-room : goal.put_within-join-requires-clause-room
put_within-join-requires-clause-room c =
    let a = c.args in
    let rs : List ℕ = without a.patterns.now a.a a.b in
    let ss : List ℕ = without a.patterns.now a.b a.a in
    let p : Place = place_in a.frame in
    let put = c.put_within-second in
    rw (without_spared a.b a.a put.ensures.spared (apart c.requires.i_bound.2) (apart c.requires.i_bound.1))
    (room_after _ (omega (arith, empty_length p rs a.at, empty_length p ss put.result, both-length p rs ss a.at)) c.requires.room put.ensures.wrote_nodes)

pub overflow_sub-second : goal.overflow_sub-second
overflow_sub-second c =
    let a = c.args in
    omega (arith, nodes_after c.put_within-second.ensures.wrote_nodes, empty_length (place_in a.frame) (without a.patterns.now a.a a.b) a.at)

pub overflow_sub-join : goal.overflow_sub-join
overflow_sub-join c =
    let a = c.args in
    omega (
      arith,
      nodes_after c.put_within-join.ensures.wrote_nodes,
      nodes_after c.put_within-second.ensures.wrote_nodes,
      empty_length (place_in a.frame) (without a.patterns.now a.a a.b) a.at,
    )

pub put_node-requires : goal.put_node-requires
put_node-requires c =
    let a = c.args in
    let rs : List ℕ = without a.patterns.now a.a a.b in
    let ss : List ℕ = without a.patterns.now a.b a.a in
    let p : Place = place_in a.frame in
    let one = c.put_within-second in
    let two = c.put_within-join.ensures.wrote_nodes in
    let both = rw (without_spared a.b a.a one.ensures.spared (apart c.requires.i_bound.2) (apart c.requires.i_bound.1)) at two in
    let room =
    room_after (length (empty_run p one.result ss) + 1) (omega (arith, empty_length p rs a.at, empty_length p ss one.result, both-length p rs ss a.at))
    c.requires.room one.ensures.wrote_nodes in
    let last = room_after 1 (omega arith) room both in
    (last, search rules, omega (arith, last.numbers, nodes_after both), omega (arith, last.numbers))

pub returns-clause-wrote_nodes : goal.returns-clause-wrote_nodes
returns-clause-wrote_nodes c =
    let a = c.args in
    let rs : List ℕ = without a.patterns.now a.a a.b in
    let ss : List ℕ = without a.patterns.now a.b a.a in
    let one = c.put_within-second in
    let two = c.put_within-join in
    let both = rw (without_spared a.b a.a one.ensures.spared (apart c.requires.i_bound.2) (apart c.requires.i_bound.1)) at two.ensures.wrote_nodes in
    nodes_then (both_parts (place_in a.frame) a.at one.result two.result rs ss (nodes_after one.ensures.wrote_nodes) (nodes_after both)) one.ensures.wrote_nodes
    (nodes_then refl both (as_node (conj (one.result - 1) (two.result - 1)) c.put_node.ensures))
