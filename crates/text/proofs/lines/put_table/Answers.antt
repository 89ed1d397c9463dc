-- `text::lines::put_table` meets its contract: the lines of the nodes, of the quantifiers and of the trailer, one behind the other. Assumes nothing.
use Rattle.std.proofs.Common.{◌*◌, ◌-◌, length, arith}
use Rattle.std.proofs.lemmas.List.{take_rest}
use Rattle.lent.proofs.Writing.{wrote_then}
use Rattle.text.proofs.Printing.{printed}
use Rattle.text.proofs.Tables.{part_length, table_long, table_whole}
use Rattle.text.proofs.lines.put_table.Goals as goal

pub overflow_sub-words : goal.overflow_sub-words
overflow_sub-words c = omega (arith, table_long c.args.words.now c.requires.words_value)

pub returns : goal.returns
returns c =
    let ws = c.args.words.now in
    let is = c.requires.words_value in
    let long = table_long ws is in
    let n = c.word-nodes.ensures in
    let nodes = c.put_nodes-quantifiers.ensures in
    let quantifiers = c.put_line-last.ensures in
    let trailer = c.put_line.ensures in
    let middle = part_length ws (3 * c.word-nodes.result) (length ws - 4) (omega arith) in
    let last = part_length ws (length ws - 4) (length ws) (omega arith) in
    let put = wrote_then nodes.wrote (wrote_then quantifiers.wrote trailer.wrote) in
    printed (rw (← table_whole ws is, ← n, ← take_rest ws (length ws - 4)) put)
    (omega (arith, nodes.upper_bound, quantifiers.upper_bound, trailer.upper_bound, c.requires.words_in_bounds))
