use Rattle.std.proofs.Common.{◌+◌, arith}
use Rattle.checker.proofs.Claims.{sound}
use Rattle.matrix.proofs.Placing.{ranking_none, ranking_next, ranked}
use Rattle.matrix.proofs.order.place_all.Goals as goal

pub regions_of-m-end-requires : goal.regions_of-m-end-requires
regions_of-m-end-requires c = (sound _ _ c.requires.words_value).few_sets

pub loop-m-init : goal.loop-m-init
loop-m-init c = record { placed_lem = c.requires.placed; ranking = ranking_none _ _ _ _ _ _ _ }

pub place-n-requires-clause-placed : goal.place-n-requires-clause-placed
place-n-requires-clause-placed c = c.loop-m.invariant.placed_lem

pub loop-m-preserved : goal.loop-m-preserved
loop-m-preserved c = record {
  placed_lem = c.place-n.ensures.placed_2;
  ranking = ranking_next _ _ _ _ _ _ _ _ c.loop-m.m c.loop-m.invariant.ranking _ _ _ c.place-n.ensures.passed (omega arith) (omega arith);
}

pub returns-2-clause-ranked : goal.returns-2-clause-ranked
returns-2-clause-ranked c =
    ranked _ _ _ _ _ _ _ _ (c.loop-m.m + 1) (omega arith)
    (ranking_next _ _ _ _ _ _ _ _ c.loop-m.m c.loop-m.invariant.ranking _ _ _ c.place-n.ensures.passed (omega arith) (omega arith))
