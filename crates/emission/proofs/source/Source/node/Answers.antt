-- `Source::node` meets its contract: a claim has no more than 1,024 nodes, and all their words. Assumes nothing.
use native.Mathlib.Omega.{arith}
use Rattle.emission.proofs.Ready.{known, few, ready_at}
use Rattle.emission.proofs.source.Source.node.Goals as goal

pub overflow_mul-at : goal.overflow_mul-at
overflow_mul-at c = omega (arith, few (ready_at c.args.self.now c.requires))

pub overflow_add-at : goal.overflow_add-at
overflow_add-at c = omega (arith, few (ready_at c.args.self.now c.requires))

pub overflow_add-at-2 : goal.overflow_add-at-2
overflow_add-at-2 c = omega (arith, few (ready_at c.args.self.now c.requires))

pub overflow_add-result : goal.overflow_add-result
overflow_add-result c = omega (arith, few (ready_at c.args.self.now c.requires))

pub offset_bounds-self-at : goal.offset_bounds-self-at
offset_bounds-self-at c = omega (arith, few (ready_at c.args.self.now c.requires))

pub bounds-self-at : goal.bounds-self-at
bounds-self-at c = omega (arith, (known (ready_at c.args.self.now c.requires)).long)
