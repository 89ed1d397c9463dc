-- Patterns: the regions that a set covers, as bits of words in a lent table with one entry a node (01, "Regions"; 02, #113).
-- Assumes nothing.
use Rattle.std.specs.Prelude.{◌≡◌, Bool, true, false, not, ◌&&◌, ◌||◌, List, ℕ, ◌+◌, ◌-◌, ◌*◌, ◌/◌, ◌%◌, ◌^◌, ◌≤◌, ◌<◌, min, max, eqb, ltb, length, get_or}
use Rattle.std.specs.Bool.{xor}
use Rattle.checker.specs.declared.Shape.{Shape}
use Rattle.checker.specs.Check.{max_nodes}
use Rattle.checker.specs.Meaning.{Set}
use Rattle.region.specs.declared.form.Form.{Form}
use Rattle.region.specs.declared.form.Form.TheVariants.{Nothing, Whole, Inside, Union, Intersection, Difference, Exclusive, Complement}
use Rattle.region.specs.Regions.{minus, over, covered}

-- bit r of p is set
unfoldable pub covers : ℕ → ℕ → Bool
covers p r = eqb (p / 2 ^ r % 2) 1

-- ---- runs of words

abbrev pub word_bits : ℕ
word_bits = 64

-- Region r is covered by w words, of which word j has the regions from 64 j on as its bits; no region is covered past the last word.
unfoldable pub covers_words : ℕ → (ℕ → ℕ) → ℕ → Bool
covers_words w f r = ltb (r / word_bits) w && covers (f (r / word_bits)) (r % word_bits)

-- ---- tables

-- how many words an entry has at most, and so how many regions a pattern has room for at most
abbrev pub pattern_words : ℕ
pattern_words = 4

abbrev pub pattern_bits : ℕ
pattern_bits = 256

-- The first words of all entries stand in front; where there is room for all of them, their second words follow, and so on, each so far behind the
-- one before.
abbrev pub stride : ℕ
stride = max_nodes

abbrev pub entries : List ℕ → ℕ
entries patterns = min (length patterns) stride

-- how many words each entry has: one at least
unfoldable pub words_in : List ℕ → ℕ
words_in patterns = max 1 (min (length patterns / stride) pattern_words)

-- and how many regions these have room for
abbrev pub room_in : List ℕ → ℕ
room_in patterns = word_bits * words_in patterns

-- A table has an entry for each node of a claim, and these have room for its regions.
pub record Roomy (shape : Shape) (patterns : List ℕ) : Type 0 where
  pub long : shape.nodes ≤ entries patterns
  pub room : 2 ^ shape.sets ≤ room_in patterns

-- word j of entry i
abbrev pub word_in : List ℕ → ℕ → ℕ → ℕ
word_in patterns i j = get_or patterns (stride * j + i) 0

-- entry i of a table of patterns covers region r; past the last entry and the last word no region is covered
unfoldable pub covers_at : List ℕ → ℕ → ℕ → Bool
covers_at patterns i r = ltb i (entries patterns) && covers_words (words_in patterns) (word_in patterns i) r

-- the regions from r on that entry i covers, rising
unfoldable pub regions_from : List ℕ → ℕ → ℕ → List ℕ
regions_from patterns i r = covered r (room_in patterns - r) (covers_at patterns i)

-- The counts of the first regions tell how many ports are in the regions of entry i: it covers no other region.
pub record Counted (patterns : List ℕ) (i : ℕ) (counts : List ℕ) : Type 0 where
  pub entry : i < entries patterns
  pub room : length counts ≤ room_in patterns
  pub within : (r : ℕ) → length counts ≤ r → covers_at patterns i r ≡ false
  pub small : over (λ r. true) counts < 2 ^ 32

-- ---- stores

-- What a written entry covers, x and y being what its operands cover; s is the number of sets.
abbrev pub covering : Form → Set → Set → Set
covering Nothing x y = λ r. false
covering (Whole s) x y = λ r. ltb r (2 ^ s)
covering (Inside k s) x y = λ r. ltb r (2 ^ s) && covers r k
covering Union x y = λ r. x r || y r
covering Intersection x y = λ r. x r && y r
covering Difference x y = minus x y
covering Exclusive x y = λ r. xor (x r) (y r)
covering (Complement s) x y = λ r. ltb r (2 ^ s) && not (x r)

-- All regions that a form speaks of have room among n.
abbrev pub Asks : Form → ℕ → Type 0
Asks Nothing n = Unit {0}
Asks (Whole s) n = 2 ^ s ≤ n
Asks (Inside k s) n = 2 ^ s ≤ n
Asks Union n = Unit {0}
Asks Intersection n = Unit {0}
Asks Difference n = Unit {0}
Asks Exclusive n = Unit {0}
Asks (Complement s) n = 2 ^ s ≤ n

-- A table becomes another by the stores of one entry: entry i covers the regions of `wanted`, and every other entry covers what it did. Of words
-- behind the last entry's nothing is said, and no one reads them.
pub record Put (before : List ℕ) (i : ℕ) (wanted : Set) (after : List ℕ) : Type 0 where
  pub long : length after ≡ length before
  pub kept : (j : ℕ) → (j ≡ i → ⊥) → (r : ℕ) → covers_at after j r ≡ covers_at before j r
  pub entry : (r : ℕ) → covers_at after i r ≡ wanted r

-- n is one past the last region that w covers; 0 if it covers none.
pub record End (w : Set) (n : ℕ) : Type 0 where
  pub past : (r : ℕ) → n ≤ r → w r ≡ false
  pub last : (r : ℕ) → r + 1 ≡ n → w r ≡ true
