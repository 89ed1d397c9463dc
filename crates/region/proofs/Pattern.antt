-- The laws of a table of patterns: which words there are, what stores do, word by word, and what an entry covers. Assumes nothing.
use mathlib.Core.Path.{◌≡◌, refl, sym, ◌∙◌, ap}
use mathlib.Core.Bool.{Bool, true, false, xor, ◌&&◌, and-false}
use mathlib.Core.List.{List, []}
use Prim.Native.Nat.{ℕ, zero, suc, ◌+◌, ◌-◌, ◌*◌, ◌/◌, ◌%◌, ◌^◌, ◌≤◌, ◌<◌}
use native.Mathlib.Decide.{dec_le}
use native.Mathlib.Nat.{sub-zero}
use native.Mathlib.Omega.{arith}
use borrow.Author.Tests.{eqb-true, eqb-false, lt-ltb, le-ltb}
use lib.Dec.{eqb, ltb}
use lib.ListN.{length, get_or, set, length-set}
use lib.Pow.{pow_mono}
use lib.Seq.{get_or-set_same, get_or-set_other}
use Rattle.checker.specs.declared.Shape.{Shape}
use Rattle.checker.specs.Check.{max_nodes, max_sets}
use Rattle.checker.specs.Meaning.{Set}
use Rattle.region.specs.declared.form.Form.{Form}
use Rattle.region.specs.declared.form.Form.TheVariants.{Nothing, Whole, Inside, Union, Intersection, Difference, Exclusive, Complement}
use Rattle.region.specs.Regions.{covered}
use Rattle.region.specs.Pattern.{covers, word_bits, covers_words, pattern_words, pattern_bits, stride, entries, words_in, room_in, word_in, Roomy, covers_at, regions_from, covering, Asks, Put, End}
use Rattle.region.proofs.Bits.{covers_of_zero, covers_high, covers_last}
use Rattle.region.proofs.Covered.{covered_same, covered_none, covered_within, covered_le}
use Rattle.region.proofs.Words.{at_place, past_words, words_cover, same_words}

-- ---- the words that there are

pub words_few : (patterns : List ℕ) → words_in patterns ≤ pattern_words
unfolding words_in
words_few patterns = omega arith

pub words_some : (patterns : List ℕ) → 1 ≤ words_in patterns
unfolding words_in
words_some patterns = omega arith

pub word_there : (patterns : List ℕ) (i j : ℕ) → i < entries patterns → j < words_in patterns → (i < stride) × (stride * j + i < length patterns)
unfolding words_in
word_there patterns i j h k = (omega arith, omega arith)

-- there is room for the regions of as many sets as a claim may have
pub regions_fit : (s : ℕ) → s ≤ max_sets → 2 ^ s ≤ pattern_bits
regions_fit s h = pow_mono {j = max_sets} h

-- the two lengths of tables that are made
pub roomy_narrow : (shape : Shape) (patterns : List ℕ) → shape.nodes ≤ max_nodes → shape.sets ≤ 6 → length patterns ≡ stride → Roomy shape patterns
unfolding words_in
roomy_narrow shape patterns n s e = record { long = omega arith; room = omega (arith, pow_mono {j = 6} s) }

pub roomy_wide : (shape : Shape) (patterns : List ℕ) → shape.nodes ≤ max_nodes → shape.sets ≤ max_sets → length patterns ≡ pattern_words * stride → Roomy shape patterns
unfolding words_in
roomy_wide shape patterns n s e = record { long = omega arith; room = omega (arith, regions_fit shape.sets s) }

-- only the length matters
pub entries_same : (l l' : List ℕ) → length l' ≡ length l → entries l' ≡ entries l
entries_same l l' e = rw e

pub words_same : (l l' : List ℕ) → length l' ≡ length l → words_in l' ≡ words_in l
unfolding words_in
words_same l l' e = rw e

pub roomy_same : {shape : Shape} {l l' : List ℕ} → length l' ≡ length l → Roomy shape l → Roomy shape l'
roomy_same {shape} {l} {l'} e r = record { long = omega (arith, e, r.long); room = omega (arith, words_same l l' e, r.room) }

-- ---- entries

pub covers_words_lem : (patterns : List ℕ) (i r : ℕ) → i < entries patterns → covers_at patterns i r ≡ covers_words (words_in patterns) (word_in patterns i) r
unfolding covers_at
covers_words_lem patterns i r h = rw (lt-ltb i (entries patterns) h)

pub covers_past : (patterns : List ℕ) (i r : ℕ) → entries patterns ≤ i → covers_at patterns i r ≡ false
unfolding covers_at
covers_past patterns i r h = rw (le-ltb i (entries patterns) h)

pub covers_beyond : (patterns : List ℕ) (i r : ℕ) → room_in patterns ≤ r → covers_at patterns i r ≡ false
unfolding covers_at
covers_beyond patterns i r h = rw (past_words (words_in patterns) (word_in patterns i) r h) (and-false (ltb i (entries patterns)))

-- a bit of a word
pub covers_bit : (patterns : List ℕ) (i j b : ℕ) → i < entries patterns → j < words_in patterns → b < word_bits
    → covers_at patterns i (word_bits * j + b) ≡ covers (word_in patterns i j) b
covers_bit patterns i j b hi hj hb =
    covers_words_lem patterns i (word_bits * j + b) hi ∙ at_place (words_in patterns) (word_in patterns i) j b hj hb

-- an entry that covers no region from n on has no such bit in a word
pub no_bit : (patterns : List ℕ) (i n : ℕ) → i < entries patterns → ((r : ℕ) → n ≤ r → covers_at patterns i r ≡ false) → (j : ℕ) → j < words_in patterns
    → word_in patterns i j < 2 ^ word_bits → (b : ℕ) → n ≤ word_bits * j + b → covers (word_in patterns i j) b ≡ false
no_bit patterns i n hi past j hj fits b h = go (dec_le word_bits b)
  where
    go : Dec (word_bits ≤ b) → covers (word_in patterns i j) b ≡ false
    go (yes l) = covers_high word_bits (word_in patterns i j) b fits l
    go (no l) = sym (covers_bit patterns i j b hi hj (omega arith)) ∙ past (word_bits * j + b) h

pub regions_words : (patterns : List ℕ) (i r : ℕ) → i < entries patterns
    → regions_from patterns i r ≡ covered r (room_in patterns - r) (covers_words (words_in patterns) (word_in patterns i))
unfolding regions_from
regions_words patterns i r h = covered_same (room_in patterns - r) r _ _ (λ q _ _. covers_words_lem patterns i q h)

-- where a region is covered, there are an entry and a word, and room above
module _ (patterns : List ℕ) (i from : ℕ) (some : 0 < length (regions_from patterns i from)) where
  pub entry_below : i < entries patterns
  unfolding regions_from
  entry_below = go (dec_le (entries patterns) i)
    where
      go : Dec (entries patterns ≤ i) → i < entries patterns
      go (yes h) =
          let none : covered from (room_in patterns - from) (covers_at patterns i) ≡ [] =
          covered_none (room_in patterns - from) from (covers_at patterns i) (λ r _ _. covers_past patterns i r h) in
          absurd (omega (arith, ap length none, some))
      go (no n) = omega arith

  pub from_below : from < room_in patterns
  unfolding regions_from
  from_below = omega (arith, covered_le (room_in patterns - from) from (covers_at patterns i), some)

-- ---- the end of an entry

-- word j is the last that is not 0, and has m bits
module _ (patterns : List ℕ) (i j m : ℕ) (hi : i < entries patterns) (hj : j < words_in patterns) (few : m ≤ word_bits)
    (low : word_in patterns i j < 2 ^ m) (high : 2 ^ m ≤ 2 * word_in patterns i j + 1) (some : word_in patterns i j ≡ 0 → ⊥)
    (none : (k : ℕ) → j < k → k < words_in patterns → word_in patterns i k ≡ 0) where
  past_last : (r : ℕ) → word_bits * j + m ≤ r → covers_at patterns i r ≡ false
  past_last r h = go (dec_le (word_bits * (j + 1)) r) (dec_le (room_in patterns) r)
    where
      go : Dec (word_bits * (j + 1) ≤ r) → Dec (room_in patterns ≤ r) → covers_at patterns i r ≡ false
      go f (yes z) = covers_beyond patterns i r z
      go (no f) (no z) =
          let e : word_bits * j + (r - word_bits * j) ≡ r = omega arith in
          rw e at
          (covers_bit patterns i j (r - word_bits * j) hi hj (omega arith) ∙ covers_high m (word_in patterns i j) (r - word_bits * j) low (omega arith))
      go (yes f) (no z) =
          let k = r / word_bits in
          let e : word_bits * k + r % word_bits ≡ r = omega arith in
          rw e at
          (covers_bit patterns i k (r % word_bits) hi (omega arith) (omega arith) ∙ ap (λ (p : ℕ). covers p (r % word_bits)) (none k (omega arith) (omega arith))
          ∙ covers_of_zero (r % word_bits))

  bits : 0 < m
  bits = go m low
    where
      go : (m : ℕ) → word_in patterns i j < 2 ^ m → 0 < m
      go zero l = absurd (some (omega arith))
      go (suc n) l = omega arith

  pub last_word : End (covers_at patterns i) (word_bits * j + m)
  last_word = record { past = past_last; last = last }
    where
      last : (r : ℕ) → r + 1 ≡ word_bits * j + m → covers_at patterns i r ≡ true
      last r e =
          let place : word_bits * j + (m - 1) ≡ r = omega (arith, bits) in
          rw place at (covers_bit patterns i j (m - 1) hi hj (omega (arith, bits)) ∙ covers_last m (word_in patterns i j) (m - 1) low high (omega (arith, bits)))

-- all words are 0
pub no_word : (patterns : List ℕ) (i : ℕ) → i < entries patterns → ((k : ℕ) → k < words_in patterns → word_in patterns i k ≡ 0) → End (covers_at patterns i) 0
no_word patterns i h all =
    record {
      past = λ r _. covers_words_lem patterns i r h ∙ words_cover (words_in patterns) (word_in patterns i) (λ r. false)
          (λ j b hj _. ap (λ (p : ℕ). covers p b) (all j hj) ∙ covers_of_zero b) (λ r _. refl) r;
      last = λ r e. absurd (omega (arith, e));
    }

-- ---- stores

-- The first j words of entry i cover what is wanted, and every other word is as it was.
pub record Stored (before : List ℕ) (i : ℕ) (wanted : Set) (j : ℕ) (now : List ℕ) : Type 0 where
  pub long : length now ≡ length before
  pub new : (m b : ℕ) → m < j → b < word_bits → covers (word_in now i m) b ≡ wanted (word_bits * m + b)
  pub old : (k : ℕ) → ((m : ℕ) → m < j → k ≡ stride * m + i → ⊥) → get_or now k 0 ≡ get_or before k 0

-- one word more
pub stored_more : {l now : List ℕ} {i : ℕ} {wanted : Set} (j word : ℕ) → stride * j + i < length l
    → ((b : ℕ) → b < word_bits → covers word b ≡ wanted (word_bits * j + b)) → Stored l i wanted j now
    → Stored l i wanted (j + 1) (set now (stride * j + i) word)
stored_more {l} {now} {i} {wanted} j word room e s =
    record {
      long = length-set now (stride * j + i) word ∙ s.long;
      new = λ m b h k. go m b h k (eqb m j) refl;
      old = λ k h. get_or-set_other now (stride * j + i) k word 0 (h j (omega arith)) ∙ s.old k (λ m a. h m (omega arith));
    }
  where
    go : (m b : ℕ) → m < j + 1 → b < word_bits → (t : Bool) → eqb m j ≡ t
        → covers (word_in (set now (stride * j + i) word) i m) b ≡ wanted (word_bits * m + b)
    go m b h k true z =
        let y : m ≡ j = eqb-true m j z in
        let inside : stride * j + i < length now = omega (arith, s.long) in
        rw (y, get_or-set_same now (stride * j + i) word 0 inside) (e b k)
    go m b h k false z =
        let y : m ≡ j → ⊥ = eqb-false m j z in
        let other : stride * m + i ≡ stride * j + i → ⊥ = λ d. y (omega arith) in
        rw (get_or-set_other now (stride * j + i) (stride * m + i) word 0 other) (s.new m b (omega arith) k)

-- the next word of an entry is as it was, and so are its bits
pub stored_bit : {l now : List ℕ} {i : ℕ} {wanted : Set} (j : ℕ) → i < stride → j < words_in l → Stored l i wanted j now
    → (a b : ℕ) → a < entries l → b < word_bits → covers (word_in now a j) b ≡ covers_at l a (word_bits * j + b)
stored_bit {l} {i = i} j hi hj s a b ha hb =
    let there = word_there l a j ha hj in
    ap (λ (p : ℕ). covers p b) (s.old (stride * j + a) (λ m h e. omega (arith, there.0))) ∙ sym (covers_bit l a j b ha hj hb)

-- all words
pub stored_put : {l now : List ℕ} {i : ℕ} {wanted : Set} (j : ℕ) → i < entries l → j ≡ words_in l → ((r : ℕ) → room_in l ≤ r → wanted r ≡ false)
    → Stored l i wanted j now → Put l i wanted now
stored_put {l} {now} {i} {wanted} j here all past s = record { long = s.long; kept = kept; entry = entry }
  where
    words : words_in now ≡ words_in l
    words = words_same l now s.long

    entry : (r : ℕ) → covers_at now i r ≡ wanted r
    entry r =
        covers_words_lem now i r (rw (entries_same l now s.long) here)
        ∙ words_cover (words_in now) (word_in now i) wanted (λ m b h k. s.new m b (omega (arith, words)) k) (λ q h. past q (omega (arith, words))) r

    -- words of two entries are not in one place
    apart : (a m k : ℕ) → (a ≡ i → ⊥) → a < entries l → m < words_in l → stride * m + a ≡ stride * k + i → ⊥
    apart a m k n h f e = n (omega (arith, (word_there l a m h f).0, (word_there l i 0 here (words_some l)).0))

    kept : (a : ℕ) → (a ≡ i → ⊥) → (r : ℕ) → covers_at now a r ≡ covers_at l a r
    kept a n r = go (dec_le (entries l) a)
      where
        go : Dec (entries l ≤ a) → covers_at now a r ≡ covers_at l a r
        go (yes h) = covers_past now a r (rw (entries_same l now s.long) h) ∙ sym (covers_past l a r h)
        go (no h) =
            let below : a < entries l = omega arith in
            covers_words_lem now a r (rw (entries_same l now s.long) below)
            ∙ ap (λ (w : ℕ). covers_words w (word_in now a) r) words
            ∙ same_words (words_in l) (word_in now a) (word_in l a) (λ m f. s.old (stride * m + a) (λ k _ e. apart a m k n below f e)) r
            ∙ sym (covers_words_lem l a r below)

-- ---- forms

-- a form covers nothing where it speaks of no region and its operands cover none
pub covering_past : (form : Form) (n : ℕ) (x y : Set) (r : ℕ) → Asks form n → n ≤ r → x r ≡ false → y r ≡ false → covering form x y r ≡ false
unfolding xor
covering_past Nothing n x y r a h ex ey = refl
covering_past (Whole s) n x y r a h ex ey = le-ltb r (2 ^ s) (omega arith)
covering_past (Inside k s) n x y r a h ex ey = rw (le-ltb r (2 ^ s) (omega arith))
covering_past Union n x y r a h ex ey = rw (ex, ey)
covering_past Intersection n x y r a h ex ey = rw ex
covering_past Difference n x y r a h ex ey = rw ex
covering_past Exclusive n x y r a h ex ey = rw (ex, ey)
covering_past (Complement s) n x y r a h ex ey = rw (le-ltb r (2 ^ s) (omega arith))

-- more room serves too
pub asks_more : (form : Form) (m n : ℕ) → Asks form m → m ≤ n → Asks form n
asks_more Nothing m n a h = tt
asks_more (Whole s) m n a h = omega arith
asks_more (Inside k s) m n a h = omega arith
asks_more Union m n a h = tt
asks_more Intersection m n a h = tt
asks_more Difference m n a h = tt
asks_more Exclusive m n a h = tt
asks_more (Complement s) m n a h = omega arith

-- ---- regions

-- an entry that is w, cut to m regions
pub covered_cut : (m : ℕ) (patterns : List ℕ) (i : ℕ) (w : Set) → m ≤ room_in patterns → ((r : ℕ) → covers_at patterns i r ≡ (ltb r m && w r))
    → regions_from patterns i 0 ≡ covered 0 m w
unfolding regions_from
covered_cut m patterns i w h e =
    rw (sub-zero (room_in patterns)) (covered_same (room_in patterns) 0 (covers_at patterns i) (λ r. ltb r m && w r) (λ r _ _. e r) ∙ covered_within m (room_in patterns) w h)

-- where there is room for their regions, sets are few
pub sets_few : (s : ℕ) → 2 ^ s ≤ pattern_bits → s ≤ 8
sets_few s h = go (dec_le s 8)
  where
    go : Dec (s ≤ 8) → s ≤ 8
    go (yes k) = k
    go (no k) = absurd (omega (arith, pow_mono {i = 9} {j = s} (omega arith)))
