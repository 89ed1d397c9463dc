-- `decimal::read::piece_length` meets its contract: where no blank stands, the piece is all of the text. Assumes nothing.
use Rattle.std.proofs.Common.{rules, tests, arith}
use Rattle.std.proofs.lemmas.Grind.{common_steps}
use Rattle.std.proofs.lemmas.Iterator.{YieldsList-from_slice}
use Rattle.std.proofs.lemmas.Iterator.Search.{position_from_yields_List}
use Rattle.std.proofs.lemmas.List.Sums.{prefix_len-le-length}
use Rattle.decimal.specs.Reading.{blank}
use Rattle.decimal.proofs.read.piece_length.Goals as goal

pub returns : goal.returns
returns c =
    let bytes = YieldsList-from_slice _ c.iter.ensures.rest in
    let found = position_from_yields_List blank _ _ c.position.result c.position.ensures.ran bytes (λ x b q k. search (rules, tests)) in
    grind (arith, common_steps, found, prefix_len-le-length)
