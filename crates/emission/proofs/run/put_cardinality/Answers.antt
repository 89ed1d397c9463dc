use mathlib.Core.Path.{◌≡◌, ap}
use Prim.Native.Nat.{◌-◌}
use native.Mathlib.Omega.{arith}
use lib.IntN.{pos}
use lib.ListN.{length}
use Rattle.checker.specs.Claim.{const}
use Rattle.region.specs.Pattern.{regions_from}
use Rattle.emission.specs.Plan.{place_in}
use Rattle.emission.proofs.Parts.{card_none, card_first, card_size, card_least, sum_next, sum_none}
use Rattle.emission.proofs.Writing.{as_node, nodes_after, nodes_then, nodes_start, nodes_step, nodes_end, room_part, room_after}
use borrow.Author.Rules.{rules}
use Rattle.emission.proofs.run.put_cardinality.Goals as goal

pub put_node-requires : goal.put_node-requires
put_node-requires c =
    let a = c.args in
    (room_part 1 (card_least (place_in a.frame) a.at (regions_from a.patterns.now a.i 0)) c.requires.room, search rules, search rules, search rules)

pub returns-then-n-eq0 : goal.returns-then-n-eq0
returns-then-n-eq0 c =
    let a = c.args in
    let none : length (regions_from a.patterns.now a.i 0) ≡ 0 = omega (arith, c.size-n.ensures.0, c.if-n-eq0.true) in
    rw (card_none (place_in a.frame) a.at (regions_from a.patterns.now a.i 0) none) (as_node (const (pos 0)) c.put_node.ensures)

pub put_region-here-requires : goal.put_region-here-requires
put_region-here-requires c =
    let a = c.args in
    (room_part 1 (card_least (place_in a.frame) a.at (regions_from a.patterns.now a.i 0)) c.requires.room, omega (arith, c.requires.i_bound.1, c.next-first.ensures.0))

pub loop-done-init : goal.loop-done-init
loop-done-init c =
    let a = c.args in
    let size = c.size-n.ensures.0 in
    let first = ap length c.next-first.ensures.2 in
    let put = c.put_region-here.ensures in
    record {
      left = omega (arith, size, first);
      behind = omega (arith, nodes_after put);
      room = room_after _ (omega (arith, size, first, card_size (place_in a.frame) a.at (regions_from a.patterns.now a.i 0))) c.requires.room put;
      rest = nodes_start;
    }

pub loop-done-preserved : goal.loop-done-preserved
loop-done-preserved c =
    let l = c.loop-done in
    let a = c.args in
    let put = c.put_summand-here.ensures in
    let fewer = ap length c.next-r.ensures.2 in
    let split =
    sum_next (place_in a.frame) l.here c.put_summand-here.result c.next-r.result (regions_from a.patterns.now a.i l.from) _
    c.next-r.ensures.2 l.invariant.behind (nodes_after put) in
    record {
      left = omega (arith, l.invariant.left, fewer);
      behind = omega (arith, nodes_after put);
      room = room_after _ (omega (arith, fewer)) l.invariant.room put;
      rest = nodes_step split l.invariant.rest put;
    }

pub returns : goal.returns
returns c =
    let l = c.loop-done in
    let a = c.args in
    let first = c.next-first in
    let put = c.put_region-here in
    let none : length (regions_from a.patterns.now a.i l.from) ≡ 0 = omega (arith, l.invariant.left) in
    let rest = nodes_end (sum_none (place_in a.frame) (l.here - 1) (regions_from a.patterns.now a.i l.from) none) l.invariant.rest in
    nodes_then (card_first (place_in a.frame) a.at put.result first.result (regions_from a.patterns.now a.i 0) _ first.ensures.2 (nodes_after put.ensures)) put.ensures rest
