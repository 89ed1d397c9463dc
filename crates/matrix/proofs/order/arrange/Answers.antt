use Rattle.std.proofs.Common.{ℕ, ◌<◌, length, get_or, arith}
use Rattle.checker.specs.Words.{claim_of}
use Rattle.checker.proofs.Claims.{sound}
use Rattle.region.specs.Pattern.{covers_at, End}
use Rattle.matrix.proofs.Placing.{placed_none, scheduled, root_placed, placed_few}
use Rattle.matrix.proofs.order.arrange.Goals as goal

pub place_all-requires-clause-placed : goal.place_all-requires-clause-placed
place_all-requires-clause-placed c = placed_none _ 1024 _

pub returns-clause-order : goal.returns-clause-order
returns-clause-order c =
    let ok = sound _ _ c.requires.words_value in
    let filled = rw ok.nodes at c.requires.filled in
    let known : (i : ℕ) → i < length (claim_of c.args.words.now).nodes → End (covers_at c.args.patterns.now i) (get_or c.fill_reach.new.reach i 0) =
    λ i h. c.fill_reach.ensures i (omega (arith, ok.nodes)) in
    let placed = c.place_all.ensures.placed_2 in
    let ranked = rw ok.sets at c.place_all.ensures.ranked in (
      placed.ordered,
      root_placed _ _ filled _ _ _ _ _ _ known placed ranked c.mark_needed.ensures ok.sorted.1.0,
      omega (arith, ok.nodes, placed_few _ _ filled _ _ _ _ _ _ known placed ranked),
    )

pub returns-clause-scheduled : goal.returns-clause-scheduled
returns-clause-scheduled c =
    let ok = sound _ _ c.requires.words_value in
    let known : (i : ℕ) → i < length (claim_of c.args.words.now).nodes → End (covers_at c.args.patterns.now i) (get_or c.fill_reach.new.reach i 0) =
    λ i h. c.fill_reach.ensures i (omega (arith, ok.nodes)) in
    rw ok.sets (scheduled _ _ (rw ok.nodes at c.requires.filled) _ _ _ _ _ _ known c.place_all.ensures.placed_2 (rw ok.sets at c.place_all.ensures.ranked))
