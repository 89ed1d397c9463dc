use Rattle.std.proofs.Common.{ap, ◌∙◌, pos, w32, arith, rules}
use mir.Val.{SFits}
use Rattle.checker.specs.Words.{word}
use Rattle.checker.proofs.Claims.{sound}
use Rattle.matrix.specs.Work.{says}
use Rattle.matrix.proofs.Words.{bits_same}
use Rattle.matrix.proofs.Open.{open_all}
use Rattle.matrix.proofs.Known.{settled_all, root_says}
use Rattle.matrix.proofs.holds.Goals as goal

pub evaluate-requires : goal.evaluate-requires
evaluate-requires c = record {
  ready = c.requires.ready;
  filled = c.requires.filled;
  order = c.requires.order.0;
  known_le_to = c.requires.known_le_rows;
  fact = open_all _ _ _ c.requires.counts;
  settled = settled_all _ _ _ _ _ _ c.requires.filled c.requires.order.0 (omega (arith, c.requires.counts.regions));
  known = c.requires.known;
}

pub returns-clause-value : goal.returns-clause-value
returns-clause-value c =
    let ok = sound _ _ c.requires.ready.accepted in
    let is = c.requires.order.2 in
    let fits : SFits w32 (word c.evaluate.new.values c.args.root) = search rules in
    bits_same w32 _ (pos 1) fits (search rules)
    ∙ ap (says c.evaluate.new.values) is
    ∙ root_says _ _ _ _ _ _ ok.sorted.1 c.requires.counts c.evaluate.ensures.known_2 (rw is at c.requires.order.1)
