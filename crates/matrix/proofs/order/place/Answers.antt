use Rattle.std.proofs.Common.{◌<◌, length, refl, arith}
use Rattle.checker.specs.Words.{claim_of}
use Rattle.checker.proofs.Claims.{sound}
use Rattle.matrix.proofs.Placing.{place_room, placed_next, passing_place, passing_skip, passed}
use Rattle.matrix.proofs.order.place.Goals as goal
use Rattle.matrix.proofs.order.place.Goals.{then-placeable, else-placeable}

pub bounds-order-n : goal.bounds-order-n
bounds-order-n c =
    let ok = sound _ _ c.requires.words_value in
    let can = c.if-placeable.ensures.0 refl in
    omega (arith, ok.nodes, place_room _ _ _ _ c.loop-i.invariant.placed_lem c.loop-i.i (omega (arith, ok.nodes)) (omega arith) can.new)

pub loop-i-preserved : goal.loop-i-preserved
loop-i-preserved c =
    let ok = sound _ _ c.requires.words_value in
    let stands = c.loop-i.invariant in
    let below : c.loop-i.i < length (claim_of c.args.words.now).nodes = omega (arith, ok.nodes) in
    elim c.if-placeable.branch [
      | then-placeable w ↦
          let can = w.if-placeable.ensures.0 refl in
          let inside : c.loop-i.i < length c.loop-i.placed = omega arith in
          let room : c.loop-i.n < length c.loop-i.order = omega (arith, ok.nodes, place_room _ _ _ _ stands.placed_lem c.loop-i.i below inside can.new) in
          rw (w.placed-is, w.order-is, w.n-is) (record {
            placed_lem = placed_next _ _ _ _ stands.placed_lem c.loop-i.i below inside can.new room can.ready;
            passing = passing_place _ _ _ _ _ _ _ _ _ c.loop-i.i stands.passing inside room can;
          })
      | else-placeable w ↦
          rw (w.placed-is, w.order-is, w.n-is) (record {
            placed_lem = stands.placed_lem;
            passing = passing_skip _ _ _ _ _ _ _ _ _ c.loop-i.i stands.passing ok.sorted.0 c.requires.closed below (λ q. cc (w.if-placeable.ensures.1 q));
          })
    ]

pub returns-clause-passed : goal.returns-clause-passed
returns-clause-passed c =
    passed _ _ _ _ _ _ _ _ _ c.loop-i.i (omega (arith, (sound _ _ c.requires.words_value).nodes)) c.loop-i.invariant.passing
