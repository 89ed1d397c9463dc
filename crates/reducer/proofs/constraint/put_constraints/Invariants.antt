-- `reducer::constraint::put_constraints` meets its contract: what the quantifiers from number j on add is written before turn j.
use Rattle.checker.specs.Words.{claim_of}
use Rattle.emission.specs.Emission as Emission
use Rattle.emission.specs.Write.{WroteNodes}
use Rattle.reducer.specs.Closing.{closed_from, added, Tells}
use Rattle.reducer.proofs.constraint.put_constraints.Given as goal

abbrev pub invariant-loop-j : goal.invariant-loop-j
invariant-loop-j l =
    let claim = claim_of l.words in
    record {
      tells : Tells (closed_from claim l.j) l.body;
      wrote : WroteNodes l.fn.out l.fn.first.nodes (added (Emission.body claim) (closed_from claim l.j)) l.out l.body.nodes;
    }
