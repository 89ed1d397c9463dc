-- What the functions below `answer_smt` print, which do not know how large words are: the same, and refusal 8 for a text that is longer than the lent
-- bytes. No words of 32 bits have one (Whole). Assumes nothing.
use Rattle.std.specs.Prelude.{List, ℕ, ℤ, Result, Ok, Err}
use Rattle.checker.specs.declared.refusals.Refusal.{Refusal}
use Rattle.checker.specs.Claim.{Claim}
use Rattle.checker.specs.Words.{claim_of}
use Rattle.emission.specs.Emission.{emission}
use Rattle.reducer.specs.Reduced.{reduced_of}
use Rattle.sentence.specs.Text.{text_of}
use Rattle.solver.specs.Written.{fitted}
use Rattle.text.specs.Answer.{lent_words, refusal_text}

-- the bytes that the program lends the writer, 72 for each node of an emission of `lent_words` words
abbrev pub lent_bytes : ℕ
lent_bytes = 393216

-- of the emission c, which the writer answers so
unfoldable pub written_text : Claim → Result ℕ Refusal → List ℕ
written_text c (Ok n) = text_of c
written_text c (Err r) = refusal_text r

-- the text of the emission c, if it is not longer than the lent bytes
unfoldable pub fitted_text : Claim → List ℕ
fitted_text c = written_text c (fitted lent_bytes c)

-- of the claim c, which the reducer answers so
unfoldable pub fitted_reduced : Claim → Result ℕ Refusal → List ℕ
fitted_reduced c (Ok n) = fitted_text (emission c)
fitted_reduced c (Err r) = refusal_text r

unfoldable pub fitted_words : List ℤ → List ℕ
fitted_words ws = fitted_reduced (claim_of ws) (reduced_of ws lent_words)
