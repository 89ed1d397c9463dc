-- What the reducer answers, and what the output slice holds then (01, "Refusal numbers" and the paragraph after): refusals 1 to 7 as the checker
-- gives them, then 12 and 8, and then the emission's words. Assumes nothing.
use Rattle.std.specs.Prelude.{List, [], ◌∷◌, ◌++◌, ℕ, ◌+◌, ltb, ℤ, length, drop, Result, Ok, Err}
use Rattle.checker.specs.declared.Shape.{Shape}
use Rattle.checker.specs.declared.refusals.Refusal.{Refusal}
use Rattle.checker.specs.declared.refusals.Refusal.TheVariants as refused
use Rattle.checker.specs.Claim.{Claim}
use Rattle.checker.specs.Words.{claim_of, words_of}
use Rattle.checker.specs.Check.{Test, test, verdict, check_of}
use Rattle.emission.specs.Emission.{emission}
use Rattle.emission.specs.Write.{max_number}

-- how many numbers there are for nodes or for quantifiers, from 0 on
abbrev pub numbers : ℕ
numbers = max_number + 1

-- 12 and 8 in order, of the emission c into `room` words
unfoldable pub reducer_tests : ℕ → Claim → List Test
reducer_tests room c =
    test (ltb numbers (length c.nodes)) refused.LargeNumber
    ∷ test (ltb numbers (length c.quantifiers)) refused.LargeNumber
    ∷ test (ltb room (length (words_of c))) (refused.TooShort (length (words_of c)))
    ∷ []

-- What a claim that the checker accepts comes to, c being its emission.
unfoldable pub admission : ℕ → Claim → Result Shape Refusal → Result Shape Refusal
admission room c (Ok s) = verdict (reducer_tests room c) (Ok s)
admission room c (Err r) = Err r

-- On success the number of words.
unfoldable pub answer : Claim → Result Shape Refusal → Result ℕ Refusal
answer c (Ok s) = Ok (length (words_of c))
answer c (Err r) = Err r

-- What the reducer answers for the words ws and an output slice of `room` words.
unfoldable pub reduced_of : List ℤ → ℕ → Result ℕ Refusal
reduced_of ws room = answer c (admission room c (check_of ws))
  where
    c : Claim
    c = emission (claim_of ws)

-- What an output slice holds after an answer: the emission's words and then what stood there, or what it held.
unfoldable pub held_after : Result ℕ Refusal → Claim → List ℤ → List ℤ
held_after (Ok n) c out = words_of c ++ drop n out
held_after (Err r) c out = out

unfoldable pub out_after : List ℤ → List ℤ → List ℤ
out_after ws out = held_after (reduced_of ws (length out)) (emission (claim_of ws)) out
