use native.Mathlib.Omega.{arith}
use Rattle.emission.proofs.Parts.{card_size}
use Rattle.emission.proofs.count.card_length.Goals as goal

pub returns : goal.returns
returns c = (λ p at rs e. omega (arith, card_size p at rs, c.max.ensures), omega (arith, c.max.ensures))
