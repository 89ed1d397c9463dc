-- What `smt` prints for its text, byte for byte: the text for a solver of the claim's emission, or a refusal. An input text is read, and words are
-- refused, as for `reduce`. Assumes nothing.
use Rattle.std.specs.Prelude.{List, ℕ, ℤ, Result, Ok, Err}
use Rattle.checker.specs.declared.refusals.Refusal.{Refusal}
use Rattle.checker.specs.Claim.{Claim}
use Rattle.checker.specs.Words.{claim_of}
use Rattle.emission.specs.Emission.{emission}
use Rattle.reducer.specs.Reduced.{reduced_of}
use Rattle.sentence.specs.Text.{text_of}
use Rattle.text.specs.Answer.{lent_words, refusal_text, input_words, answered}

-- of the claim c, which the reducer answers so
unfoldable pub smt_reduced : Claim → Result ℕ Refusal → List ℕ
smt_reduced c (Ok n) = text_of (emission c)
smt_reduced c (Err r) = refusal_text r

unfoldable pub smt_words : List ℤ → List ℕ
smt_words ws = smt_reduced (claim_of ws) (reduced_of ws lent_words)

-- What `smt` prints for an input text.
unfoldable pub smt_text : List ℕ → List ℕ
smt_text input = answered smt_words (input_words input)
