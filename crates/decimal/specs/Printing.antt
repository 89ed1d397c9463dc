-- Numbers and words as text, byte for byte. Assumes nothing.
use Rattle.std.specs.Prelude.{cond, List, [], ◌∷◌, ◌++◌, ℕ, zero, suc, ◌+◌, ◌/◌, ◌%◌, ltb, ℤ, pos, negsuc}
use Prim.Native.Char.{code}
use Prim.Native.String as string
use Rattle.decimal.specs.Reading.{minus}

-- the bytes of a quoted text
abbrev pub bytes : string.String → List ℕ
bytes string.[] = []
bytes (string.◌∷◌ c s) = code c ∷ bytes s

abbrev pub space : ℕ
space = 32

abbrev pub line_feed : ℕ
line_feed = 10

-- n in decimal digits, of which there are at most `most` and one; n of them are enough
unfoldable pub decimal_of : ℕ → ℕ → List ℕ
decimal_of zero n = (48 + n % 10) ∷ []
decimal_of (suc most) n = cond (ltb n 10) ((48 + n) ∷ []) (decimal_of most (n / 10) ++ (48 + n % 10) ∷ [])

-- n in decimal digits, the first of which is 0 only where n is
unfoldable pub decimal : ℕ → List ℕ
decimal n = decimal_of n n

unfoldable pub word_text : ℤ → List ℕ
word_text (pos n) = decimal n
word_text (negsuc n) = minus ∷ decimal (suc n)

-- the byte after a word that these words follow
abbrev pub ending : List ℤ → ℕ
ending [] = line_feed
ending (w ∷ ws) = space

-- Words on a line, with one space between; no words are no line.
unfoldable pub line_text : List ℤ → List ℕ
line_text [] = []
line_text (w ∷ ws) = word_text w ++ (ending ws ∷ line_text ws)
