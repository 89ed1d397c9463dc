use mathlib.Core.Path.{refl, ap, ap₂, ◌∙◌}
use native.Mathlib.Omega.{arith}
use Rattle.checker.specs.Words.{claim_of}
use Rattle.decider.specs.Plan.{plan_of}
use Rattle.decider.specs.Answer.{ended}
use Rattle.decider.proofs.Answer.{nothing_left, one_step}
use Rattle.decider.proofs.Heap.{leaf, final_part}
use Rattle.decider.proofs.Settling.{finals_counts}
use Rattle.decider.proofs.search.Search.step.Goals as goal

pub returns-then-a-eq0-clause-value : goal.returns-then-a-eq0-clause-value
returns-then-a-eq0-clause-value c =
    rw (leaf (plan_of (claim_of c.args.self.now.words)) c.args.self.now.regions c.args.self.now.regions c.args.counts.now refl) (nothing_left _ c.args.a c.if-a-eq0.true)

pub holds-truth-requires-clause-counts : goal.holds-truth-requires-clause-counts
holds-truth-requires-clause-counts c =
    let stands = rw (← c.self.view_is) at c.requires.stands in
    let regions = c.self.inside.regions in
    rw (final_part c.args.counts.now regions regions regions (omega arith) stands.roomy.0)
    (finals_counts c.args.counts.now regions regions _ c.self.inside.size refl stands.roomy.0 c.self.invariant.final stands.total)

pub holds-truth-requires-clause-known : goal.holds-truth-requires-clause-known
holds-truth-requires-clause-known c =
    let stands = rw (← c.self.view_is) at c.requires.stands in
    let regions = c.self.inside.regions in
    rw (final_part c.args.counts.now regions regions regions (omega arith) stands.roomy.0) stands.shown

pub returns-clause-value : goal.returns-clause-value
returns-clause-value c =
    let stands = rw (← c.self.view_is) at c.requires.stands in
    let regions = c.self.inside.regions in
    let plan = plan_of (claim_of c.self.inside.words.now) in
    let part = final_part c.args.counts.now regions regions regions (omega arith) stands.roomy.0 in
    rw (← c.self.view_is)
    (rw (leaf plan regions regions c.args.counts.now refl)
    (ap₂ ended (c.holds-truth.ensures.value ∙ ap plan.matrix part) c.spend-rest.ensures ∙ one_step _ c.args.a (omega (arith, c.if-a-eq0.false))))
