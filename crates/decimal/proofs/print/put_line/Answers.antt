-- `decimal::print::put_line` meets its contract: what is left of the line is still to be put. Assumes nothing.
use Rattle.std.proofs.Common.{rules, ◌+◌, get_or, arith, pos, ap, ◌∙◌}
use borrow.Author.Rules.{sfits_of}
use mir.Syntax.{w32}
use mir.Facts.{to_z-of_z}
use Rattle.decimal.specs.Printing.{ending}
use Rattle.lent.proofs.Writing.{rest_step, rest_end, wrote_then}
use Rattle.std.proofs.lemmas.List.{take_rest}
use Rattle.decimal.proofs.Lines.{line_none, line_step}
use Rattle.decimal.proofs.print.put_line.Goals as goal

pub loop-i-preserved : goal.loop-i-preserved
loop-i-preserved c =
    let loop = c.loop-i in
    let i = loop.i in
    let ws = c.args.words.now in
    let put = c.put_word-end.ensures in
    let last = c.put-here.ensures in
    let w = to_z-of_z (sfits_of {w = w32} {z = get_or ws i (pos 0)} (search rules)) in
    let both = wrote_then (rw w at put.wrote) last in
    let split = line_step ws i c.loop-i-test.true (c.ending.ensures ∙ ap ending (take_rest ws (i + 1))) in
    (omega (arith, put.upper_bound, last.after, loop.invariant.0), rest_step split loop.invariant.1 both)

pub returns : goal.returns
returns c =
    let loop = c.loop-i in
    record {
      wrote = rest_end (line_none c.args.words.now loop.i c.loop-i-test.false) loop.invariant.1;
      upper_bound = omega arith;
    }
