-- `decider::rule_on` meets its contract: the arrays are long enough for the claims that they are for. Assumes nothing.
use mathlib.Core.Path.{refl}
use Rattle.checker.specs.Words.{claim_of}
use Rattle.checker.specs.Check.{max_sets, check_of}
use Rattle.checker.proofs.Claims.{sound}
use Rattle.region.proofs.Pattern.{roomy_narrow, roomy_wide}
use Rattle.decider.proofs.Admitted.{admitted}
use Rattle.decider.proofs.Settling.{framed}
use Rattle.decider.proofs.rule_on.Goals as goal

pub rule_within-requires-clause-roomy : goal.rule_within-requires-clause-roomy
rule_within-requires-clause-roomy c =
    let claim = sound _ _ (admitted c.args.size (claim_of c.args.words.now) (check_of c.args.words.now) c.args.shape c.requires.words_value).checked in
    (roomy_narrow c.args.shape _ claim.few_nodes c.if-shape-le-NARROW_SETS.true refl, framed c.args.shape 6 claim.few_nodes c.if-shape-le-NARROW_SETS.true)

pub rule_within-requires-else-shape-le-NARROW_SETS-clause-roomy : goal.rule_within-requires-else-shape-le-NARROW_SETS-clause-roomy
rule_within-requires-else-shape-le-NARROW_SETS-clause-roomy c =
    let claim = sound _ _ (admitted c.args.size (claim_of c.args.words.now) (check_of c.args.words.now) c.args.shape c.requires.words_value).checked in
    (roomy_wide c.args.shape _ claim.few_nodes claim.few_sets refl, framed c.args.shape max_sets claim.few_nodes claim.few_sets)
