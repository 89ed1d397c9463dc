-- Numbers and words in a text (01, refusal 0): decimal numbers in signed 32-bit range, with spaces, CR or LF between, before or after.
-- Assumes nothing.
use Rattle.std.specs.Prelude.{Bool, true, false, cond, ◌&&◌, ◌||◌, List, [], ◌∷◌, ◌++◌, ℕ, zero, suc, ◌+◌, ◌*◌, ◌-◌, leb, eqb, ℤ, pos, neg_ℤ, length, drop, Option, Some, None}

-- ---- bytes

-- a space, LF or CR
abbrev pub blank : ℕ → Bool
blank b = eqb b 32 || (eqb b 10 || eqb b 13)

-- 0 to 9
abbrev pub digit : ℕ → Bool
digit b = leb 48 b && leb b 57

abbrev pub minus : ℕ
minus = 45

-- ---- a number

-- what digits say after those that say n
unfoldable pub value_after : ℕ → List ℕ → ℕ
value_after n [] = n
value_after n (d ∷ ds) = value_after (10 * n + (d - 48)) ds

abbrev pub value : List ℕ → ℕ
value ds = value_after 0 ds

unfoldable pub digits : List ℕ → Bool
digits [] = true
digits (d ∷ ds) = digit d && digits ds

-- at least one digit, and nothing else
abbrev pub is_number : List ℕ → Bool
is_number [] = false
is_number (d ∷ ds) = digits (d ∷ ds)

-- ---- a word

abbrev pub most_negative : ℕ
most_negative = 2147483648

abbrev pub most_positive : ℕ
most_positive = 2147483647

-- a minus sign or none, and then a number, in signed 32-bit range
unfoldable pub is_word : List ℕ → Bool
is_word [] = false
is_word (b ∷ bs) = cond (eqb b minus) (is_number bs && leb (value bs) most_negative) (is_number (b ∷ bs) && leb (value (b ∷ bs)) most_positive)

unfoldable pub word_of : List ℕ → ℤ
word_of [] = pos 0
word_of (b ∷ bs) = cond (eqb b minus) (neg_ℤ (pos (value bs))) (pos (value (b ∷ bs)))

-- ---- a text

-- one byte in front of the first piece
abbrev pub on_first : ℕ → List (List ℕ) → List (List ℕ)
on_first b [] = (b ∷ []) ∷ []
on_first b (p ∷ ps) = (b ∷ p) ∷ ps

-- the text cut at its blanks
unfoldable pub pieces : List ℕ → List (List ℕ)
pieces [] = [] ∷ []
pieces (b ∷ bs) = cond (blank b) ([] ∷ pieces bs) (on_first b (pieces bs))

-- The words read from the front, and whether that was all: reading stops at a piece that is no word, or where there is no room left.
pub record Reading : Type 0 where
  pub words : List ℤ
  pub all : Bool

abbrev pub stopped : Reading
stopped = record { words = []; all = false }

abbrev pub after : ℤ → Reading → Reading
after z r = record { words = z ∷ r.words; all = r.all }

unfoldable pub read_pieces : ℕ → List (List ℕ) → Reading
read_pieces room [] = record { words = []; all = true }
read_pieces room ([] ∷ ps) = read_pieces room ps
read_pieces zero ((b ∷ bs) ∷ ps) = stopped
read_pieces (suc room) ((b ∷ bs) ∷ ps) = cond (is_word (b ∷ bs)) (after (word_of (b ∷ bs)) (read_pieces room ps)) stopped

-- the words of a text, of which there is room for `room`
unfoldable pub read_text : ℕ → List ℕ → Reading
read_text room text = read_pieces room (pieces text)

-- ---- what the functions answer

-- a number of at most `most`
unfoldable pub number_in : ℕ → List ℕ → Option ℕ
number_in most ds = cond (is_number ds && leb (value ds) most) (Some (value ds)) None

-- the number that a further digit makes of n
unfoldable pub next_in : ℕ → ℕ → ℕ → Option ℕ
next_in most n d = cond (digit d && leb (10 * n + (d - 48)) most) (Some (10 * n + (d - 48))) None

unfoldable pub word_in : List ℕ → Option ℤ
word_in t = cond (is_word t) (Some (word_of t)) None

-- how many words a reading has, if it read all of them
unfoldable pub scanned_of : Reading → Option ℕ
scanned_of r = cond r.all (Some (length r.words)) None

-- the words that were read, at the front of a list, and then what stood there
unfoldable pub onto : List ℤ → Reading → List ℤ
onto l r = r.words ++ drop (length r.words) l
