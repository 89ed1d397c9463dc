-- `emission::nodes::count` meets its contract: what is counted is what stands after the nodes passed. Assumes nothing.
use mathlib.Core.Path.{◌≡◌}
use Prim.Native.Nat.{◌+◌, ◌*◌, ◌≤◌, ◌<◌}
use lib.ListN.{length, get_or}
use Rattle.checker.specs.Words.{claim_of}
use Rattle.region.specs.Pattern.{pattern_bits}
use Rattle.emission.specs.Runs.{emitted_to, Patterned}
use Rattle.emission.proofs.nodes.count.Given as goal

abbrev pub invariant-loop-i : goal.invariant-loop-i
invariant-loop-i l = record {
  patterned : Patterned (claim_of l.fn.words) l.patterns l.i;
  nodes : l.body.nodes ≡ length (emitted_to (claim_of l.fn.words) l.i).nodes;
  few : l.body.nodes ≤ (4 * pattern_bits + 3) * l.i;
  root : l.fn.shape.root < l.i → l.body.root ≡ get_or (emitted_to (claim_of l.fn.words) l.i).stands l.fn.shape.root 0;
}
