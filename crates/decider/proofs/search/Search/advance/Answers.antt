use native.Mathlib.Omega.{arith}
use Rattle.decider.proofs.Heap.{final_part}
use Rattle.decider.proofs.Settling.{finals_open}
use Rattle.decider.proofs.search.Search.advance.Goals as goal

pub evaluate-requires-clause-fact : goal.evaluate-requires-clause-fact
evaluate-requires-clause-fact c =
    let stands = rw (← c.self.view_is) at c.requires.stands in
    let lt = rw (← c.self.view_is) at c.requires.h_lt_regions in
    rw (final_part c.args.counts.now c.self.inside.regions c.args.h c.min-start.result c.min-start.ensures (omega arith))
    (finals_open c.args.counts.now c.args.h c.self.inside.regions _ c.self.inside.size lt (omega arith) c.self.invariant.final stands.total)

pub evaluate-requires-clause-known : goal.evaluate-requires-clause-known
evaluate-requires-clause-known c =
    let stands = rw (← c.self.view_is) at c.requires.stands in
    rw (final_part c.args.counts.now c.self.inside.regions c.args.h c.min-start.result c.min-start.ensures (omega arith)) stands.shown

pub returns-clause-known_2 : goal.returns-clause-known_2
returns-clause-known_2 c =
    let stands = rw (← c.self.view_is) at c.requires.stands in
    rw (← c.self.view_is)
    (rw (final_part c.args.counts.now c.self.inside.regions c.args.h c.min-start.result c.min-start.ensures (omega arith)) at c.evaluate.ensures.known_2)
