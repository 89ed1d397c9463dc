-- The pieces that the writer puts lines together from: bytes with numbers between them, and expressions over a word.
-- Assumes nothing.
use Rattle.std.specs.Prelude.{List, ◌++◌, ℕ, ℤ}
use Rattle.decimal.specs.Printing.{decimal}
use Rattle.sentence.specs.Bytes.{bytes}
use Rattle.sentence.specs.Smt.{two, times}
use Rattle.sentence.specs.Sentences.{node, whole_number, divisible}
use Rattle.sentence.specs.Text.{expr_text}

-- one number
abbrev pub one_text : List ℕ → ℕ → List ℕ → List ℕ
one_text s n t = s ++ (decimal n ++ t)

-- two numbers
abbrev pub two_text : List ℕ → ℕ → List ℕ → ℕ → List ℕ → List ℕ
two_text s a m b t = s ++ (decimal a ++ (m ++ (decimal b ++ t)))

-- an operator, which ends in the n of the first of two nodes
abbrev pub pair_text : List ℕ → ℕ → ℕ → List ℕ
pair_text s a b = two_text s a (bytes " n") b (bytes ")")

-- a quantifier's line, and the guard of its variable
abbrev pub count_text : List ℕ → List ℕ → ℕ → List ℕ
count_text s g n = one_text s n (bytes " Int))\n") ++ one_text g n (bytes " 0)\n")

-- w times node b
abbrev pub multiple_text : ℤ → ℕ → List ℕ
multiple_text w b = expr_text (two times (whole_number w) (node b))

-- that w divides node b
abbrev pub divided_text : ℤ → ℕ → List ℕ
divided_text w b = expr_text (divisible w (node b))
