use Prim.Native.Nat.{◌+◌, ◌*◌}
use lib.ListN.{take}
use Rattle.checker.specs.Words.{claim_of}
use Rattle.emission.specs.Plan.{Says}
use Rattle.emission.proofs.Frames.{Noted}
use Rattle.emission.proofs.plan.make.Given as goal

abbrev pub invariant-loop-j : goal.invariant-loop-j
invariant-loop-j l = record {
  says : Says (take l.j (claim_of l.words).quantifiers) l.frame;
  noted : Noted (claim_of l.words).quantifiers (3 * l.shape.quantifiers + 3) l.initial.plan l.plan l.j;
}
