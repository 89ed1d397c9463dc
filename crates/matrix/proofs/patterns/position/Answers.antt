use Rattle.std.proofs.Common.{◌+◌, ◌-◌, true, get_or, refl, rules, tests, arith, ◌∙◌}
use Rattle.std.proofs.lemmas.Iterator.{YieldsList-from_range}
use Rattle.std.proofs.lemmas.Iterator.Consumers.{YieldsList-from_filter, YieldsList-at, count_from_yields_List}
use Rattle.checker.specs.Claim.{int_q}
use Rattle.checker.specs.Words.{claim_of}
use Rattle.checker.specs.Sorts.{is_set_q}
use Rattle.checker.proofs.Claims.{sound}
use Rattle.matrix.proofs.Positions.{sets_filtered}
use Rattle.matrix.proofs.patterns.position.Goals as goal

pub returns : goal.returns
returns c =
    let qs = (claim_of c.args.words.now).quantifiers in
    let first = c.args.q + 1 in
    let n = c.args.shape.quantifiers in
    count_from_yields_List c.filter.result _ c.count.ensures.ran
    (YieldsList-from_filter _ (λ j. is_set_q (get_or qs j (int_q true)))
    (YieldsList-at c.filter.ensures.source (YieldsList-from_range first n (n - first) (cc) refl)) c.filter.ensures.closure (λ x r q k. search (rules, tests)))
    ∙ sets_filtered qs (n - first) first (omega (arith, (sound _ _ c.requires.words_value).quantifiers))
