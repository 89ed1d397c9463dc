-- Patterns of any number of words: what they cover, word by word and bit by bit; how many regions; how many ports these have; and where the next
-- region is. Assumes nothing.
use mathlib.Core.Path.{◌≡◌, refl, sym, ◌∙◌, ap, ap₂}
use mathlib.Core.Bool.{true, false, true≢false}
use mathlib.Core.List.{List, ◌∷◌, ◌++◌, map}
use Prim.Native.Nat.{ℕ, zero, suc, ◌+◌, ◌-◌, ◌*◌, ◌/◌, ◌%◌, ◌^◌, ◌≤◌, ◌<◌}
use native.Mathlib.Decide.{dec_le}
use native.Mathlib.Nat.{zero-add}
use native.Mathlib.Numerals.{add-one}
use native.Mathlib.Omega.{arith}
use borrow.Author.Tests.{lt-ltb, le-ltb}
use lib.Count.{ones}
use lib.ListN.{length, take, drop, length-map, length-append, length-drop, take-append-drop}
use lib.Seq.{length-take-le, take_all}
use Rattle.std.specs.List.{sum, range_with_len}
use Rattle.std.proofs.lemmas.List.FromFn.{sum_by-map-range_with_len_more}
use Rattle.checker.specs.Meaning.{Set}
use Rattle.region.specs.Regions.{covered, over}
use Rattle.region.specs.Pattern.{covers, word_bits, covers_words}
use Rattle.region.proofs.Bits.{covers_shift, covers_of_zero, covers_high}
use Rattle.region.proofs.Covered.{covered_same, covered_none, covered-append, covered_shift, covered_first, over_same, over_none, over-append}
use Rattle.region.proofs.Lowest.{covered_ones, Lowest}

-- ---- word by word and bit by bit

pub at_place : (w : ℕ) (f : ℕ → ℕ) (j b : ℕ) → j < w → b < word_bits → covers_words w f (word_bits * j + b) ≡ covers (f j) b
unfolding covers_words
at_place w f j b hj hb =
    let d : (word_bits * j + b) / word_bits ≡ j = omega arith in
    let m : (word_bits * j + b) % word_bits ≡ b = omega arith in
    rw (d, m, lt-ltb j w hj)

pub past_words : (w : ℕ) (f : ℕ → ℕ) (r : ℕ) → word_bits * w ≤ r → covers_words w f r ≡ false
unfolding covers_words
past_words w f r h =
    let d : w ≤ r / word_bits = omega arith in
    rw (le-ltb (r / word_bits) w d)

-- fewer words, for the regions that they have
pub below_words : (v w : ℕ) (f : ℕ → ℕ) (r : ℕ) → v ≤ w → r < word_bits * v → covers_words w f r ≡ covers_words v f r
unfolding covers_words
below_words v w f r h l =
    let j : r / word_bits < v = omega arith in
    rw (lt-ltb (r / word_bits) v j, lt-ltb (r / word_bits) w (omega arith))

-- What words cover is settled word by word and bit by bit.
pub words_cover : (w : ℕ) (f : ℕ → ℕ) (wanted : Set) → ((j b : ℕ) → j < w → b < word_bits → covers (f j) b ≡ wanted (word_bits * j + b))
    → ((r : ℕ) → word_bits * w ≤ r → wanted r ≡ false) → (r : ℕ) → covers_words w f r ≡ wanted r
words_cover w f wanted within past r = go (dec_le (word_bits * w) r)
  where
    go : Dec (word_bits * w ≤ r) → covers_words w f r ≡ wanted r
    go (yes h) = past_words w f r h ∙ sym (past r h)
    go (no h) =
        let j : r / word_bits < w = omega arith in
        let b : r % word_bits < word_bits = omega arith in
        let e : word_bits * (r / word_bits) + r % word_bits ≡ r = omega arith in
        rw e at (at_place w f (r / word_bits) (r % word_bits) j b ∙ within (r / word_bits) (r % word_bits) j b)

-- the same words cover the same
pub same_words : (w : ℕ) (f g : ℕ → ℕ) → ((j : ℕ) → j < w → f j ≡ g j) → (r : ℕ) → covers_words w f r ≡ covers_words w g r
same_words w f g e =
    words_cover w f (covers_words w g) (λ j b hj hb. ap (λ (p : ℕ). covers p b) (e j hj) ∙ sym (at_place w g j b hj hb)) (past_words w g)

-- ---- how many regions

-- the regions of one word
word_part : (w : ℕ) (f : ℕ → ℕ) (j : ℕ) → j < w
    → covered (word_bits * j + 0) word_bits (covers_words w f) ≡ map (λ r. word_bits * j + r) (covered 0 word_bits (covers (f j)))
word_part w f j h =
    covered_shift word_bits (word_bits * j) 0 (covers_words w f)
    ∙ ap (map (λ r. word_bits * j + r))
    (covered_same word_bits 0 (λ r. covers_words w f (word_bits * j + r)) (covers (f j)) (λ r _ l. at_place w f j r h (omega arith)))

pub covered_words : (w : ℕ) (f : ℕ → ℕ) → ((j : ℕ) → j < w → f j < 2 ^ word_bits)
    → length (covered 0 (word_bits * w) (covers_words w f)) ≡ sum (map (λ j. ones (f j)) (range_with_len 0 w))
unfolding covered
covered_words zero f h = refl
covered_words (suc w) f h =
    let all : Set = covers_words (suc w) f in
    let parts : word_bits * suc w ≡ word_bits * w + word_bits = omega arith in
    let place : 0 + word_bits * w ≡ word_bits * w + 0 = omega arith in
    ap (λ (n : ℕ). length (covered 0 n all)) parts ∙ ap length (covered-append (word_bits * w) word_bits 0 all)
    ∙ length-append (covered 0 (word_bits * w) all) (covered (0 + word_bits * w) word_bits all)
    ∙ ap₂ (λ (m n : ℕ). m + n)
    (ap length (covered_same (word_bits * w) 0 all (covers_words w f) (λ r _ l. below_words w (suc w) f r (omega arith) (omega arith)))
    ∙ covered_words w f (λ j l. h j (omega arith)))
    (ap (λ (n : ℕ). length (covered n word_bits all)) place ∙ ap length (word_part (suc w) f w (omega arith))
    ∙ length-map (covered 0 word_bits (covers (f w))) (λ r. word_bits * w + r) ∙ covered_ones word_bits (f w) (h w (omega arith)))
    ∙ rw add-one at (sym (sum_by-map-range_with_len_more (λ n. n) (λ j. ones (f j)) 0 w w (zero-add w)))

-- ---- how many ports

-- one word more
pub over_word : (w : ℕ) (f : ℕ → ℕ) (cs : List ℕ) → f w < 2 ^ word_bits → word_bits * w ≤ length cs
    → over (covers_words (w + 1) f) cs ≡ over (covers_words w f) cs + over (covers (f w)) (drop (word_bits * w) cs)
over_word w f cs fits room =
    let n = word_bits * w in
    let front = take n cs in
    let back = drop n cs in
    let long : length front ≡ n = length-take-le n cs room in
    let parts : front ++ back ≡ cs = take-append-drop n cs in
    let more = rw parts at (over-append front back (covers_words (w + 1) f)) in
    let less = rw parts at (over-append front back (covers_words w f)) in
    let same : over (covers_words (w + 1) f) front ≡ over (covers_words w f) front =
    over_same front (covers_words (w + 1) f) (covers_words w f) (λ r l. below_words w (w + 1) f r (omega arith) (omega arith)) in
    let none : over (λ r. covers_words w f (length front + r)) back ≡ 0 =
    over_none back (λ r. covers_words w f (length front + r)) (λ r _. past_words w f (length front + r) (omega arith)) in
    let here : over (λ r. covers_words (w + 1) f (length front + r)) back ≡ over (covers (f w)) back =
    over_same back (λ r. covers_words (w + 1) f (length front + r)) (covers (f w)) (λ r _. rw long (bit r (dec_le word_bits r))) in
    omega (arith, more, less, same, none, here)
  where
    bit : (r : ℕ) → Dec (word_bits ≤ r) → covers_words (w + 1) f (word_bits * w + r) ≡ covers (f w) r
    bit r (yes h) = past_words (w + 1) f (word_bits * w + r) (omega arith) ∙ sym (covers_high word_bits (f w) r fits h)
    bit r (no h) = at_place (w + 1) f w r (omega arith) (omega arith)

-- the first word
pub over_first : (f : ℕ → ℕ) (cs : List ℕ) → f 0 < 2 ^ word_bits → over (covers_words 1 f) cs ≡ over (covers (f 0)) cs
over_first f cs fits = over_same cs (covers_words 1 f) (covers (f 0)) (λ r _. bit r (dec_le word_bits r))
  where
    bit : (r : ℕ) → Dec (word_bits ≤ r) → covers_words 1 f r ≡ covers (f 0) r
    bit r (yes h) = past_words 1 f r (omega arith) ∙ sym (covers_high word_bits (f 0) r fits h)
    bit r (no h) =
        let e : word_bits * 0 + r ≡ r = omega arith in
        rw e at (at_place 1 f 0 r (omega arith) (omega arith))

-- the words past the regions that there are do not matter
pub over_short : (v w : ℕ) (f : ℕ → ℕ) (cs : List ℕ) → v ≤ w → length cs ≤ word_bits * v → over (covers_words w f) cs ≡ over (covers_words v f) cs
over_short v w f cs h l = over_same cs (covers_words w f) (covers_words v f) (λ r m. below_words v w f r h (omega arith))

-- the counts from place n on
pub rest_whole : (n : ℕ) (cs : List ℕ) → take (length cs - n) (drop n cs) ≡ drop n cs
rest_whole n cs = take_all (length cs - n) (drop n cs) (omega (arith, length-drop n cs))

pub over_rest : (n : ℕ) (cs : List ℕ) → over (λ r. true) (drop n cs) ≤ over (λ r. true) cs
over_rest n cs = let e = rw (take-append-drop n cs) at (over-append (take n cs) (drop n cs) (λ r. true)) in omega (arith, e)

-- ---- the next region, from r on

module _ (w : ℕ) (f : ℕ → ℕ) (r : ℕ) (h : r < word_bits * w) where
  abbrev here : ℕ
  here = r / word_bits

  -- the word of r, moved down to r
  abbrev left : ℕ
  left = f here / 2 ^ (r % word_bits)

  -- a bit of it
  in_left : (t : ℕ) → r % word_bits + t < word_bits → covers_words w f (r + t) ≡ covers left t
  in_left t l =
      let j : here < w = omega arith in
      let e : word_bits * here + (r % word_bits + t) ≡ r + t = omega arith in
      rw e at (at_place w f here (r % word_bits + t) j l ∙ sym (covers_shift (f here) (r % word_bits) t))

  -- none is left in its word
  pub none_left : left ≡ 0
      → covered r (word_bits * w - r) (covers_words w f)
      ≡ covered (word_bits * (here + 1)) (word_bits * w - word_bits * (here + 1)) (covers_words w f)
  none_left z =
      let n : ℕ = word_bits * (here + 1) - r in
      let rest : ℕ = word_bits * w - word_bits * (here + 1) in
      let parts : word_bits * w - r ≡ n + rest = omega arith in
      let next : r + n ≡ word_bits * (here + 1) = omega arith in
      ap (λ (m : ℕ). covered r m (covers_words w f)) parts ∙ covered-append n rest r (covers_words w f)
      ∙ rw (covered_none n r (covers_words w f) none, next)
    where
      none : (s : ℕ) → r ≤ s → s < r + (word_bits * (here + 1) - r) → covers_words w f s ≡ false
      none s a b =
          let e : r + (s - r) ≡ s = omega arith in
          rw (e, z, covers_of_zero (s - r)) at (in_left (s - r) (omega arith))

  -- t is the first place in it that is covered
  module _ (t : ℕ) (fits : f here < 2 ^ word_bits) (low : Lowest word_bits left t) where
    in_word_lem : r % word_bits + t < word_bits
    in_word_lem = go (dec_le word_bits (r % word_bits + t))
      where
        go : Dec (word_bits ≤ r % word_bits + t) → r % word_bits + t < word_bits
        go (yes l) =
            absurd (true≢false (sym low.set ∙ covers_shift (f here) (r % word_bits) t ∙ covers_high word_bits (f here) (r % word_bits + t) fits l))
        go (no l) = omega arith

    pub first_below : r + t < word_bits * w
    first_below = omega (arith, in_word_lem)

    pub first_left : covered r (word_bits * w - r) (covers_words w f)
        ≡ (r + t) ∷ covered (r + t + 1) (word_bits * w - (r + t + 1)) (covers_words w f)
    first_left =
        let size : word_bits * w - r - suc t ≡ word_bits * w - (r + t + 1) = omega arith in
        rw (size, ← add-one (r + t)) at
        (covered_first (word_bits * w - r) r t (covers_words w f) (omega (arith, in_word_lem)) (in_left t in_word_lem ∙ low.set) before)
      where
        before : (s : ℕ) → r ≤ s → s < r + t → covers_words w f s ≡ false
        before s a b =
            let e : r + (s - r) ≡ s = omega arith in
            rw e at (in_left (s - r) (omega (arith, in_word_lem)) ∙ low.under (s - r) (omega arith))
