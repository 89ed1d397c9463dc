-- `scanner::numbers::number` meets its contract: what is left of the digits decides. Assumes nothing.
use Rattle.std.proofs.Common.{◌≡◌, ◌+◌, ◌*◌, ◌≤◌, length}
use Rattle.sentence.specs.Scan.{number_from}
use Rattle.scanner.specs.Finds.{most}
use Rattle.scanner.proofs.numbers.number.Given as goal

abbrev pub invariant-loop-rest : goal.invariant-loop-rest
invariant-loop-rest l = record { small : l.n ≤ 10 * most + 9; same : number_from most 0 l.text ≡ number_from most l.n l.rest }

abbrev pub decreases-loop-rest : goal.decreases-loop-rest
decreases-loop-rest l = length l.rest
