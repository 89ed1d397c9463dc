-- Lines of three words, without a claim: what the function that prints nodes follows.
-- Assumes nothing.
use Rattle.std.specs.Prelude.{List, [], ◌++◌, ℕ, zero, suc, ℤ, take, drop}
use Rattle.decimal.specs.Printing.{line_text}

unfoldable pub node_lines : ℕ → List ℤ → List ℕ
node_lines zero ws = []
node_lines (suc n) ws = line_text (take 3 ws) ++ node_lines n (drop 3 ws)
