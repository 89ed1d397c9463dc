-- What the writer answers (written_of) and leaves in its output slice (out_after): refusals 1 to 7 as the checker gives them for an emitted table, then 8,
-- and then the text. Assumes nothing.
use Rattle.std.specs.Prelude.{cond, List, ◌++◌, ℕ, ltb, ℤ, length, drop, Result, Ok, Err}
use Rattle.checker.specs.declared.Shape.{Shape}
use Rattle.checker.specs.declared.refusals.Refusal.{Refusal}
use Rattle.checker.specs.declared.refusals.Refusal.TheVariants as refused
use Rattle.checker.specs.declared.Dialect.TheVariants.{Emitted}
use Rattle.checker.specs.Claim.{Claim}
use Rattle.checker.specs.Words.{claim_of}
use Rattle.checker.specs.Check.{check_as}
use Rattle.sentence.specs.Text.{text_of}

-- The text of c into `room` bytes: on success the number of bytes, and else 8 with the bytes needed.
unfoldable pub fitted : ℕ → Claim → Result ℕ Refusal
fitted room c = cond (ltb room needed) (Err (refused.TooShort needed)) (Ok needed)
  where
    needed : ℕ
    needed = length (text_of c)

-- What the claim c comes to, of which the checker says this.
unfoldable pub answer : ℕ → Claim → Result Shape Refusal → Result ℕ Refusal
answer room c (Ok s) = fitted room c
answer room c (Err r) = Err r

-- What the writer answers for the words ws and an output slice of `room` bytes.
unfoldable pub written_of : List ℤ → ℕ → Result ℕ Refusal
written_of ws room = answer room (claim_of ws) (check_as Emitted ws)

-- What an output slice holds after an answer: the text and then what stood there, or what it held.
unfoldable pub held_after : Result ℕ Refusal → Claim → List ℕ → List ℕ
held_after (Ok n) c out = text_of c ++ drop n out
held_after (Err r) c out = out

unfoldable pub out_after : List ℤ → List ℕ → List ℕ
out_after ws out = held_after (written_of ws (length out)) (claim_of ws) out
