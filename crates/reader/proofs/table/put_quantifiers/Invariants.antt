-- `reader::table::put_quantifiers` meets its contract: what is left of the text decides. Assumes nothing.
use Rattle.std.proofs.Common.{◌-◌, map}
use Rattle.checker.specs.Words.{quantifier_word}
use Rattle.sentence.specs.Scan.{quantifiers_from}
use Rattle.scanner.specs.Finds.{most}
use Rattle.reader.specs.Runs.{limits}
use Rattle.reader.proofs.Lefts.{Left}
use Rattle.reader.proofs.table.put_quantifiers.Given as goal

abbrev pub invariant-loop-i : goal.invariant-loop-i
invariant-loop-i l =
    let left = quantifiers_from most (limits.quantifiers - l.i) l.rest in
    Left (map quantifier_word) 1 (quantifiers_from most limits.quantifiers l.text) l.initial.words l.from l.words l.i left
