use mathlib.Core.Path.{ap, ◌∙◌}
use native.Mathlib.Omega.{arith}
use lib.ListN.{length}
use Rattle.emission.specs.Runs.{without}
use Rattle.emission.proofs.Lengths.{card-length, empty_length}
use Rattle.emission.proofs.Sets.{difference_regions}
use Rattle.emission.proofs.count.within_length.Goals as goal

pub returns-clause-upper_bound : goal.returns-clause-upper_bound
returns-clause-upper_bound c =
    let a = c.args in
    let card = c.card_length.ensures in
    let rs = without a.patterns.now a.a a.b in
    let n = c.size.ensures.0 ∙ ap length (difference_regions a.a a.b c.put_difference.ensures) in
    (λ p at. omega (arith, card.0 p at rs n, card-length p rs at, empty_length p rs at), omega (arith, card.1))
