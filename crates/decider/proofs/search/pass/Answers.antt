use native.Mathlib.Omega.{arith}
use Rattle.decider.proofs.Passing.{passed_more}
use Rattle.decider.proofs.search.pass.Goals as goal

pub loop-here-preserved : goal.loop-here-preserved
loop-here-preserved c =
    passed_more _ _ _ _ _ _ c.requires.0 c.loop-here-test.true (omega arith) (omega arith) c.children.ensures c.loop-here.invariant
