-- `reducer::quantifiers::put_quantifiers` meets its contract: what the first j quantifiers become is written before turn j.
use mathlib.Core.List.{map}
use lib.ListN.{take}
use Rattle.checker.specs.Words.{claim_of, quantifier_word}
use Rattle.emission.specs.Emission.{start, emit_quantifiers}
use Rattle.lent.specs.Write.{Wrote}
use Rattle.reducer.proofs.quantifiers.put_quantifiers.Given as goal

abbrev pub invariant-loop-j : goal.invariant-loop-j
invariant-loop-j l =
    Wrote l.fn.out l.at (map quantifier_word (emit_quantifiers start (take l.j (claim_of l.words).quantifiers))) l.out l.here
