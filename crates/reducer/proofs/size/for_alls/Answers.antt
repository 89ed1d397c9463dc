-- `reducer::size::for_alls` meets its contract: among the words of the quantifiers, those of the for-alls are counted. Assumes nothing.
use Rattle.std.proofs.Common.{◌≡◌, ◌∙◌, ◌+◌, ◌*◌, rules, pos, int_eq, slice_range, count_by}
use Rattle.std.proofs.iter.runs.Made.{chains}
use Rattle.checker.proofs.Claims.{sound}
use Rattle.reducer.proofs.Counted.{alls_in}
use Rattle.reducer.proofs.size.for_alls.Goals as goal

pub returns : goal.returns
returns c =
    let start = 3 * c.args.shape.nodes in
    let counted : c.count.result ≡ count_by (λ w. int_eq w (pos 4)) (slice_range c.args.words.now start (start + c.args.shape.quantifiers)) = search (rules, chains) in
    counted ∙ alls_in (sound c.args.words.now _ c.requires)
