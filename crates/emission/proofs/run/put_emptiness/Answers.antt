use mathlib.Core.Path.{refl}
use mathlib.Core.List.{List}
use Prim.Native.Nat.{ℕ, ◌-◌}
use native.Mathlib.Omega.{arith}
use lib.IntN.{pos}
use Rattle.checker.specs.Claim.{const, equal}
use Rattle.region.specs.Pattern.{regions_from}
use Rattle.emission.specs.Plan.{place_in}
use Rattle.emission.proofs.Lengths.{card-length, empty_length}
use Rattle.emission.proofs.Parts.{card_least, empty_parts}
use Rattle.emission.proofs.Writing.{as_node, nodes_after, nodes_then, room_part, room_after}
use borrow.Author.Rules.{rules}
use Rattle.emission.proofs.run.put_emptiness.Goals as goal

pub put_cardinality-zero-requires-clause-room : goal.put_cardinality-zero-requires-clause-room
put_cardinality-zero-requires-clause-room c =
    let a = c.args in
    let rs : List ℕ = regions_from a.patterns.now a.i 0 in
    room_part _ (omega (arith, card-length (place_in a.frame) rs a.at, empty_length (place_in a.frame) rs a.at)) c.requires.room

pub put_node-equal-requires : goal.put_node-equal-requires
put_node-equal-requires c =
    let a = c.args in
    let rs : List ℕ = regions_from a.patterns.now a.i 0 in
    let put = c.put_cardinality-zero.ensures in
    (room_after 1 (omega (arith, card-length (place_in a.frame) rs a.at, empty_length (place_in a.frame) rs a.at)) c.requires.room put, search rules, search rules, search rules)

pub overflow_sub-zero : goal.overflow_sub-zero
overflow_sub-zero c =
    let a = c.args in
    omega (arith, card_least (place_in a.frame) a.at (regions_from a.patterns.now a.i 0), nodes_after c.put_cardinality-zero.ensures)

pub put_node-requires : goal.put_node-requires
put_node-requires c =
    let a = c.args in
    let rs : List ℕ = regions_from a.patterns.now a.i 0 in
    let put = c.put_cardinality-zero.ensures in
    let room = room_after 2 (omega (arith, card-length (place_in a.frame) rs a.at, empty_length (place_in a.frame) rs a.at)) c.requires.room put in
    let zero = as_node (const (pos 0)) c.put_node-equal.ensures in
    (room_after 1 (omega arith) room zero, search rules, omega (arith, room.numbers), omega (arith, room.numbers))

pub returns : goal.returns
returns c =
    let a = c.args in
    let put = c.put_cardinality-zero in
    nodes_then (empty_parts (place_in a.frame) a.at put.result (regions_from a.patterns.now a.i 0) (nodes_after put.ensures)) put.ensures
    (nodes_then refl (as_node (const (pos 0)) c.put_node-equal.ensures)
    (as_node (equal (put.result - 1) put.result) c.put_node.ensures))
