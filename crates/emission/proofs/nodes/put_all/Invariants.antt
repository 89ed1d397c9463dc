-- `emission::nodes::put_all` meets its contract: what is written is what stands after the nodes passed. Assumes nothing.
use mathlib.Core.Path.{◌≡◌}
use lib.ListN.{length}
use Rattle.checker.specs.Words.{claim_of}
use Rattle.emission.specs.Runs.{emitted_to, Patterned, Standing}
use Rattle.emission.specs.Write.{WroteNodes}
use Rattle.emission.proofs.nodes.put_all.Given as goal

abbrev pub invariant-loop-i : goal.invariant-loop-i
invariant-loop-i l = record {
  long : length l.stands ≡ 1024;
  patterned : Patterned (claim_of l.fn.words) l.patterns l.i;
  standing : Standing (claim_of l.fn.words) l.stands l.i;
  wrote : WroteNodes l.initial.out 0 (emitted_to (claim_of l.fn.words) l.i).nodes l.out l.at;
}
