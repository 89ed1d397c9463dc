-- `solver::text::opened` meets its contract: in the loop the brackets of the quantifiers so far are counted. Assumes nothing.
use mathlib.Core.Path.{◌≡◌}
use Prim.Native.Nat.{◌*◌, ◌≤◌}
use lib.ListN.{take}
use Rattle.checker.specs.Words.{claim_of}
use Rattle.sentence.specs.Lines.{brackets}
use Rattle.solver.proofs.text.opened.Given as goal

abbrev pub invariant-loop-i : goal.invariant-loop-i
invariant-loop-i l = record { counted : l.open ≡ brackets (take l.i (claim_of l.words).quantifiers); few : l.open ≤ 2 * l.i }
