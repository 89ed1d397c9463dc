-- Integers as words hold them. Assumes nothing.
use Rattle.std.specs.Prelude.{Bool, true, cond, ◌&&◌, List, [], ◌∷◌, leb, ℤ, pos, negsuc}
use Rattle.decimal.specs.Reading.{most_positive}

-- a signed 32-bit word holds z
unfoldable pub in_word : ℤ → Bool
in_word (pos n) = leb n most_positive
in_word (negsuc n) = leb n most_positive

unfoldable pub in_words : List ℤ → Bool
in_words [] = true
in_words (z ∷ zs) = in_word z && in_words zs

-- z as it is put into a word: what no word holds is put as 0
unfoldable pub held : ℤ → ℤ
held z = cond (in_word z) z (pos 0)
