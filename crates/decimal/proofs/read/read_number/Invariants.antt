-- `decimal::read::read_number` meets its contract: what is left of the digits decides. Assumes nothing.
use Rattle.std.proofs.Common.{◌≡◌, drop}
use Rattle.decimal.specs.Reading.{number_in}
use Rattle.decimal.proofs.Numbers.{number_from}
use Rattle.decimal.proofs.read.read_number.Given as goal

abbrev pub invariant-loop-b : goal.invariant-loop-b
invariant-loop-b l = number_in l.most l.text ≡ number_from l.most l.value (drop l.b-index l.text)
