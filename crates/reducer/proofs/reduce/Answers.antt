-- `reducer::reduce` meets its contract: each of the two tables has room for the claims that it is made for. Assumes nothing.
use mathlib.Core.Path.{refl, sym, ◌∙◌}
use Rattle.checker.proofs.Claims.{sound}
use Rattle.region.proofs.Pattern.{roomy_narrow, roomy_wide}
use Rattle.reducer.proofs.reduce.Goals as goal

pub reduce_with-requires-clause-roomy : goal.reduce_with-requires-clause-roomy
reduce_with-requires-clause-roomy c =
    let claim = sound _ _ (sym c.check.ensures ∙ c.in_ok-shape.was) in
    roomy_narrow _ _ claim.few_nodes c.if-shape-le-NARROW_SETS.true refl

pub reduce_with-requires-else-shape-le-NARROW_SETS-clause-roomy : goal.reduce_with-requires-else-shape-le-NARROW_SETS-clause-roomy
reduce_with-requires-else-shape-le-NARROW_SETS-clause-roomy c =
    let claim = sound _ _ (sym c.check.ensures ∙ c.in_ok-shape.was) in
    roomy_wide _ _ claim.few_nodes claim.few_sets refl
