-- `reader::table::put_nodes` meets its contract: what is left of the text decides. Assumes nothing.
use Rattle.std.proofs.Common.{◌-◌}
use Rattle.checker.specs.Words.{nodes_words}
use Rattle.sentence.specs.Scan.{nodes_from}
use Rattle.scanner.specs.Finds.{most}
use Rattle.reader.specs.Runs.{limits}
use Rattle.reader.proofs.Lefts.{Left}
use Rattle.reader.proofs.table.put_nodes.Given as goal

abbrev pub invariant-loop-i : goal.invariant-loop-i
invariant-loop-i l =
    Left nodes_words 3 (nodes_from most limits.nodes l.text) l.initial.words 0 l.words l.i (nodes_from most (limits.nodes - l.i) l.rest)
