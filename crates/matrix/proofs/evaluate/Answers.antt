use Rattle.std.proofs.Common.{arith, rules, w32}
use mir.Val.{SFits}
use Rattle.std.proofs.lemmas.Int.{to_z-of_z}
use Rattle.matrix.proofs.Known.{kept_next}
use Rattle.matrix.proofs.Turn.{workable, countable, turned}
use Rattle.matrix.proofs.evaluate.Goals as goal

pub value-requires-clause-workable : goal.value-requires-clause-workable
value-requires-clause-workable c =
    workable _ _ c.requires.ready _ c.requires.filled _ _ _ c.requires.order _ c.requires.fact c.requires.settled _ (omega arith) c.loop-k.k (omega arith) c.loop-k-test.true c.loop-k.invariant.stands

pub value-requires-clause-counted : goal.value-requires-clause-counted
value-requires-clause-counted c =
    countable _ _ c.requires.ready _ c.requires.filled _ _ _ c.requires.order _ c.requires.fact c.requires.settled _ (omega arith) c.loop-k.k (omega arith) c.loop-k-test.true c.loop-k.invariant.stands
    c.ranges.size.fits

pub loop-k-preserved : goal.loop-k-preserved
loop-k-preserved c =
    let fits : SFits w32 c.value.result = search rules in
    rw (to_z-of_z w32 c.value.result fits) (record {
      stands = turned _ _ c.requires.ready _ c.requires.filled _ _ _ c.requires.order _ c.requires.fact c.requires.settled _ (omega arith) c.loop-k.k (omega arith) c.loop-k-test.true c.loop-k.invariant.stands
          _ c.value.ensures;
      kept = kept_next _ _ _ c.requires.order c.args.known c.loop-k.k (omega arith) c.loop-k-test.true _ _ _ c.loop-k.invariant.kept;
    })
