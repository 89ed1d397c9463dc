-- `decimal::print::put_line` meets its contract: what is left of the line is still to be put. Assumes nothing.
use Rattle.std.proofs.Common.{◌+◌, ◌*◌, ◌≤◌, drop}
use Rattle.decimal.specs.Printing.{line_text}
use Rattle.lent.proofs.Writing.{Rest}
use Rattle.decimal.proofs.print.put_line.Given as goal

abbrev pub invariant-loop-i : goal.invariant-loop-i
invariant-loop-i l = (l.here ≤ l.at + 12 * l.i) × Rest l.out l.here (line_text (drop l.i l.words)) l.initial.out l.at (line_text l.words)
