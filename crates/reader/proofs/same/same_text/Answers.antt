-- `reader::same::same_text` meets its contract. Assumes nothing.
use Rattle.std.proofs.Common.{rules}
use Rattle.reader.proofs.Agrees.{same_left}
use Rattle.reader.proofs.same.same_text.Goals as goal

pub returns : goal.returns
returns c = same_left _ _ _ _ c.is_some_and.ensures (λ x k. search rules) c.put_text.ensures.put
