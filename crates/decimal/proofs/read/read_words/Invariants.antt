-- `decimal::read::read_words` meets its contract: the pieces that are left decide. Assumes nothing.
use Rattle.std.proofs.Common.{length}
use Rattle.decimal.proofs.Readings.{Left, filled_pieces}
use Rattle.decimal.proofs.read.read_words.Given as goal

abbrev pub invariant-loop-rest : goal.invariant-loop-rest
invariant-loop-rest l = Left l.text l.initial.out l.out l.count (filled_pieces l.rest)

abbrev pub decreases-loop-rest : goal.decreases-loop-rest
decreases-loop-rest l = length l.rest
