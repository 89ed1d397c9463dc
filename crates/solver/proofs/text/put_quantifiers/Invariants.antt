-- `solver::text::put_quantifiers` meets its contract: in the loop the lines of the quantifiers so far are put. Assumes nothing.
use Prim.Native.Nat.{◌*◌, ◌≤◌}
use lib.ListN.{length, take}
use Rattle.checker.specs.Words.{claim_of}
use Rattle.sentence.specs.Lines.{quantifier_lines}
use Rattle.solver.specs.Laid.{longest_line}
use Rattle.solver.proofs.text.put_quantifiers.Given as goal

abbrev pub invariant-loop-i : goal.invariant-loop-i
invariant-loop-i g l =
    let front = quantifier_lines 0 (take l.i (claim_of l.words).quantifiers) in
    record { put : g.S.Sink.took l.initial.sink front l.sink; short : length front ≤ longest_line * l.i }
