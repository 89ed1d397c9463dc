use Rattle.std.proofs.Common.{◌≡◌, ◌<◌, length, refl, sym, zero-le, arith}
use Rattle.std.proofs.Math.Seq.{length-take-le}
use Rattle.checker.specs.Words.{claim_of}
use Rattle.checker.proofs.Search.{upto_none, upto_more, upto_hit, upto_end}
use Rattle.checker.proofs.Claims.{sound}
use Rattle.matrix.proofs.Marks.{node_is}
use Rattle.matrix.proofs.Limits.{is_over, not_over, bounds_next, small_next}
use Rattle.matrix.proofs.bound.first_over.Goals as goal

pub loop-i-init : goal.loop-i-init
loop-i-init c = record { stand = refl; small = λ j. zero-le; upto = upto_none _ _ }

pub slice_bounds-bounds-end : goal.slice_bounds-bounds-end
slice_bounds-bounds-end c = omega (arith, (sound _ _ c.requires).few_nodes)

pub slice_bounds-bound_of-end : goal.slice_bounds-bound_of-end
slice_bounds-bound_of-end c = sym (length-take-le c.loop-i.i c.loop-i.bounds (omega (arith, (sound _ _ c.requires).few_nodes)))

pub bound_of-b-requires-clause-i_in_bounds : goal.bound_of-b-requires-clause-i_in_bounds
bound_of-b-requires-clause-i_in_bounds c = omega (arith, (sound _ _ c.requires).long)

pub returns-then-b-gt-MAX_BOUND : goal.returns-then-b-gt-MAX_BOUND
returns-then-b-gt-MAX_BOUND c =
    let below : c.loop-i.i < length (claim_of c.args.words.now).nodes = omega (arith, (sound _ _ c.requires).nodes) in
    let is = rw (← node_is _ _ c.requires c.loop-i.i (omega arith)) at c.bound_of-b.ensures in
    upto_hit _ _ _ c.loop-i.invariant.upto below (is_over _ _ c.loop-i.bounds _ below c.loop-i.invariant.stand _ is c.if-b-gt-MAX_BOUND.true)

pub offset_bounds-bounds-i : goal.offset_bounds-bounds-i
offset_bounds-bounds-i c = omega (arith, (sound _ _ c.requires).few_nodes)

pub bounds-bounds-i : goal.bounds-bounds-i
bounds-bounds-i c = omega (arith, (sound _ _ c.requires).few_nodes)

pub loop-i-preserved : goal.loop-i-preserved
loop-i-preserved c =
    let ok = sound _ _ c.requires in
    let claim = claim_of c.args.words.now in
    let stands = c.loop-i.invariant in
    let below : c.loop-i.i < length (claim_of c.args.words.now).nodes = omega (arith, ok.nodes) in
    let inside : c.loop-i.i < length c.loop-i.bounds = omega (arith, ok.few_nodes) in
    let is = rw (← node_is _ _ c.requires c.loop-i.i (omega arith)) at c.bound_of-b.ensures in record {
      stand = bounds_next _ claim _ _ below stands.stand _ is inside;
      small = small_next c.args.size claim _ _ below stands.stand _ is inside c.if-b-gt-MAX_BOUND.false stands.small;
      upto = upto_more _ _ _ stands.upto below (not_over _ _ c.loop-i.bounds _ below stands.stand _ is c.if-b-gt-MAX_BOUND.false);
    }

pub returns : goal.returns
returns c =
    let e : c.loop-i.i ≡ c.args.shape.nodes = omega arith in
    rw (← e) (upto_end _ _ c.loop-i.i c.loop-i.invariant.upto (omega (arith, (sound _ _ c.requires).nodes)))
