use Rattle.checker.specs.Words.{claim_of}
use Rattle.decider.specs.Standing.{Somes}
use Rattle.decider.proofs.Levels.{Level}
use Rattle.decider.proofs.somes.fill_somes.Given as goal

abbrev pub invariant-loop-q : goal.invariant-loop-q
invariant-loop-q l = Level (claim_of l.words).quantifiers l.q l.regions × Somes l.somes (claim_of l.words).quantifiers l.regions
