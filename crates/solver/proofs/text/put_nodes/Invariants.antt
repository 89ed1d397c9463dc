-- `solver::text::put_nodes` meets its contract: in the loop the lines of the nodes so far are put. Assumes nothing.
use Prim.Native.Nat.{◌*◌, ◌≤◌}
use lib.ListN.{length, take}
use Rattle.checker.specs.Words.{claim_of}
use Rattle.sentence.specs.Lines.{node_lines}
use Rattle.solver.specs.Laid.{longest_line}
use Rattle.solver.proofs.text.put_nodes.Given as goal

abbrev pub invariant-loop-i : goal.invariant-loop-i
invariant-loop-i g l =
    let front = node_lines 0 (take l.i (claim_of l.words).nodes) in
    record { put : g.S.Sink.took l.initial.sink front l.sink; short : length front ≤ longest_line * l.i }
