-- `reader::table::put_held` meets its contract: the numbers so far are put. Assumes nothing.
use Rattle.std.proofs.Common.{◌+◌, map, take}
use Rattle.lent.specs.Write.{Wrote}
use Rattle.reader.specs.Held.{held}
use Rattle.reader.proofs.table.put_held.Given as goal

abbrev pub invariant-loop-i : goal.invariant-loop-i
invariant-loop-i l = Wrote l.initial.words l.at (map held (take l.i l.numbers)) l.words (l.at + l.i)
