-- `region::next` meets its contract: the loop goes from word to word, and the regions that are left stay the same until one is found. Assumes nothing.
use mathlib.Core.Path.{◌≡◌, refl, sym, ◌∙◌, ap}
use mathlib.Core.List.{List, ◌∷◌}
use Prim.Native.Nat.{ℕ, ◌+◌, ◌*◌, ◌/◌, ◌%◌, ◌^◌, ◌<◌}
use native.Mathlib.Nat.{div-one, lt_of_le_of_lt}
use native.Mathlib.Omega.{arith}
use lib.Count.{count_trailing_zeros, trailing_le}
use lib.ListN.{length}
use lib.Pow.{shr_le}
use Rattle.region.specs.Pattern.{word_bits, pattern_bits, stride, entries, words_in, room_in, word_in, regions_from}
use Rattle.region.proofs.Lowest.{Lowest, trailing_lowest}
use Rattle.region.proofs.Words.{none_left, first_below, first_left}
use Rattle.region.proofs.Pattern.{entry_below, from_below, words_few, regions_words}
use Rattle.region.proofs.read.next.Goals as goal

-- where a region is covered from r on,
module _ (patterns : List ℕ) (i r : ℕ) (some : 0 < length (regions_from patterns i r)) where
  there : (i < entries patterns) × (r / word_bits < words_in patterns)
  there = (entry_below patterns i r some, omega (arith, from_below patterns i r some))

  few : r < pattern_bits
  few = omega (arith, from_below patterns i r some, words_few patterns)

  abbrev left : ℕ
  left = word_in patterns i (r / word_bits) / 2 ^ (r % word_bits)

  -- and none is in its word, it is from the next word on
  module _ (none : left ≡ 0) where
    passed : regions_from patterns i (word_bits * (r / word_bits + 1)) ≡ regions_from patterns i r
    passed =
        regions_words patterns i (word_bits * (r / word_bits + 1)) there.0
        ∙ sym (none_left (words_in patterns) (word_in patterns i) r (from_below patterns i r some) none) ∙ sym (regions_words patterns i r there.0)

    still : 0 < length (regions_from patterns i (word_bits * (r / word_bits + 1)))
    still = rw passed some

  -- and one is in its word, the lowest bit is the first
  module _ (pos : 0 < left) (fits : word_in patterns i (r / word_bits) < 2 ^ word_bits) where
    abbrev t : ℕ
    t = count_trailing_zeros word_bits left

    low : Lowest word_bits left t
    low = trailing_lowest word_bits left pos (lt_of_le_of_lt (shr_le (word_in patterns i (r / word_bits)) (r % word_bits)) fits)

    found_below : r + t < room_in patterns
    found_below = first_below (words_in patterns) (word_in patterns i) r (from_below patterns i r some) t fits low

    found_first : regions_from patterns i r ≡ (r + t) ∷ regions_from patterns i (r + t + 1)
    found_first =
        regions_words patterns i r there.0 ∙ first_left (words_in patterns) (word_in patterns i) r (from_below patterns i r some) t fits low
        ∙ ap (λ l. (r + t) ∷ l) (sym (regions_words patterns i (r + t + 1) there.0))

pub word_at-requires : goal.word_at-requires
word_at-requires c = there c.args.patterns.now c.args.i c.args.from c.requires

pub loop-left-init : goal.loop-left-init
loop-left-init c = record {
  above = omega arith;
  some = c.requires;
  same = refl;
  word = ap (λ (p : ℕ). p / 2 ^ (c.args.from % 64)) c.word_at.ensures;
}

pub overflow_mul-r : goal.overflow_mul-r
overflow_mul-r c = omega (arith, few c.args.patterns.now c.args.i c.loop-left.r c.loop-left.invariant.some)

pub word_at-left-requires : goal.word_at-left-requires
word_at-left-requires c =
    let l = c.loop-left in
    there c.args.patterns.now c.args.i _ (still c.args.patterns.now c.args.i l.r l.invariant.some (sym l.invariant.word ∙ c.loop-left-test.true))

pub loop-left-smaller : goal.loop-left-smaller
loop-left-smaller c = omega (arith, from_below c.args.patterns.now c.args.i c.loop-left.r c.loop-left.invariant.some)

pub loop-left-preserved : goal.loop-left-preserved
loop-left-preserved c =
    let l = c.loop-left in
    let t = c.args.patterns.now in
    let none = sym l.invariant.word ∙ c.loop-left-test.true in
    let place : word_bits * (l.r / word_bits + 1) % word_bits ≡ 0 = omega arith in
    record {
      above = omega (arith, l.invariant.above);
      some = still t c.args.i l.r l.invariant.some none;
      same = passed t c.args.i l.r l.invariant.some none ∙ l.invariant.same;
      word = c.word_at-left.ensures ∙ rw (place, div-one);
    }

pub overflow_add-result : goal.overflow_add-result
overflow_add-result c =
    omega (arith, trailing_le 64 c.loop-left.left, few c.args.patterns.now c.args.i c.loop-left.r c.loop-left.invariant.some)

pub returns : goal.returns
returns c =
    let l = c.loop-left in
    let t = c.args.patterns.now in
    let pos : 0 < left t c.args.i l.r l.invariant.some = omega (arith, l.invariant.word, c.loop-left-test.false) in
    let fits = (c.type_inv.patterns (stride * (l.r / word_bits) + c.args.i)).fits in
    rw l.invariant.word (
      omega (arith, found_below t c.args.i l.r l.invariant.some pos fits, words_few t),
      omega (arith, l.invariant.above),
      sym l.invariant.same ∙ found_first t c.args.i l.r l.invariant.some pos fits,
    )
