-- What the reader answers, and what the output slice holds then (#101): the words of the claim that the writer takes and that has this text, or 21
-- where there is none, tested before 8. There is at most one such claim; it is the one that the text is scanned as (`Answers` of the proofs says
-- that this is so). Assumes nothing.
use Rattle.std.specs.Prelude.{◌≡◌, Bool, true, false, cond, ◌&&◌, List, ◌++◌, ℕ, ltb, ℤ, length, drop, Result, Ok, Err}
use Rattle.checker.specs.declared.Shape.{Shape}
use Rattle.checker.specs.declared.refusals.Refusal.{Refusal}
use Rattle.checker.specs.declared.refusals.Refusal.TheVariants as refused
use Rattle.checker.specs.declared.Dialect.TheVariants.{Emitted}
use Rattle.checker.specs.Claim.{Claim}
use Rattle.checker.specs.Words.{claim_of, words_of}
use Rattle.checker.specs.Check.{check_as}
use Rattle.sentence.specs.Text.{text_of}
use Rattle.sentence.specs.Scan.{scan}
use Rattle.reader.specs.Held.{in_words}
use Rattle.reader.specs.Same.{same}
use Rattle.reader.specs.Runs.{limits}

-- ---- what the writer takes

abbrev pub accepts : Result Shape Refusal → Bool
accepts (Ok s) = true
accepts (Err r) = false

-- The writer takes a claim: its words are signed 32-bit words, and are accepted as an emitted table.
unfoldable pub takes : Claim → Bool
takes c = in_words (words_of c) && accepts (check_as Emitted (words_of c))

abbrev pub WriterTakes : Claim → Type 0
WriterTakes c = takes c ≡ true

-- The writer takes the words ws, and writes this text.
unfoldable pub writes : List ℤ → List ℕ → Bool
writes ws text = accepts (check_as Emitted ws) && same (text_of (claim_of ws)) text

-- ---- the answer

-- the claim c, for which there are `room` words
unfoldable pub given : Claim → ℕ → Result ℕ Refusal
given c room = cond (ltb room (length (words_of c))) (Err (refused.TooShort (length (words_of c)))) (Ok (length (words_of c)))

-- the claim c, if the writer takes it and it has this text
unfoldable pub answer : Claim → List ℕ → ℕ → Result ℕ Refusal
answer c text room = cond (takes c && same (text_of c) text) (given c room) (Err refused.Unwritten)

-- What the reader answers for a text and an output slice of `room` words.
unfoldable pub read_of : List ℕ → ℕ → Result ℕ Refusal
read_of text room = answer (scan limits text) text room

-- What an output slice holds after an answer: the claim's words and then what stood there, or what it held.
unfoldable pub held_after : Result ℕ Refusal → Claim → List ℤ → List ℤ
held_after (Ok n) c out = words_of c ++ drop n out
held_after (Err r) c out = out

unfoldable pub out_after : List ℕ → List ℤ → List ℤ
out_after text out = held_after (read_of text (length out)) (scan limits text) out
