-- `checker::kinds::row_of` meets its contract: the constant table has the document's row at each of its 28 entries. Assumes nothing.
use Rattle.std.proofs.Common.{◌∙◌, sym, zero-add}
use Rattle.std.proofs.lemmas.Bool.{ltb-true}
use Rattle.std.proofs.lemmas.List.FromFn.{get_or-map-range_with_len}
use Rattle.checker.specs.Kinds.{row_of}
use Rattle.checker.proofs.kinds.row_of.Goals as goal

pub returns : goal.returns
unfolding row_of
returns c =
    let found = c.in_ok-get.ensures.lookup in
    found.1 ∙ get_or-map-range_with_len row_of 0 28 c.args.kind c.args.kind _ (ltb-true _ _ (sym found.0)) (zero-add _)
