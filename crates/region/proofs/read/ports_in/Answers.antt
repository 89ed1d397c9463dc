-- `region::ports_in` meets its contract: the ports of the first words, word by word, until there are no more counts. Assumes nothing.
use mathlib.Core.Path.{◌≡◌, sym, ◌∙◌, ap}
use mathlib.Core.Bool.{true, false}
use mathlib.Core.List.{List}
use Prim.Native.Nat.{ℕ, ◌+◌, ◌-◌, ◌*◌, ◌^◌, ◌<◌, ◌≤◌}
use native.Mathlib.Nat.{lt_of_le_of_lt}
use native.Mathlib.Omega.{arith}
use lib.ListN.{length, take, drop, length-drop}
use Rattle.region.specs.Regions.{over}
use Rattle.region.specs.Pattern.{covers, word_bits, covers_words, stride, words_in, word_in, covers_at, Counted}
use Rattle.region.proofs.Covered.{over_same, over_le}
use Rattle.region.proofs.Words.{over_first, over_word, over_short, rest_whole, over_rest}
use Rattle.region.proofs.Pattern.{words_some, covers_words_lem, no_bit}
use Rattle.region.proofs.read.ports_in.Goals as goal

-- word j and the counts of its regions
module _ (patterns : List ℕ) (i : ℕ) (counts : List ℕ) (h : Counted patterns i counts) (fits : (m : ℕ) → word_in patterns i m < 2 ^ word_bits)
    (j : ℕ) (inside : word_bits * j < length counts) where
  abbrev rest : List ℕ
  rest = take (length counts - word_bits * j) (drop (word_bits * j) counts)

  small : over (λ r. true) rest < 2 ^ 32
  small = rw (rest_whole (word_bits * j) counts) (lt_of_le_of_lt (over_rest (word_bits * j) counts) h.small)

  no_more : (r : ℕ) → length rest ≤ r → covers (word_in patterns i j) r ≡ false
  no_more r l =
      let long : length rest ≡ length counts - word_bits * j = ap length (rest_whole (word_bits * j) counts) ∙ length-drop (word_bits * j) counts in
      no_bit patterns i (length counts) h.entry h.within j (omega (arith, h.room)) (fits j) r (omega arith)

  more : {ports n p : ℕ} → ports ≡ over (covers_words j (word_in patterns i)) counts → p ≡ word_in patterns i j → n ≡ over (covers p) rest
      → ports + n ≡ over (covers_words (j + 1) (word_in patterns i)) counts
  more e w f = rw (e, f, w, rest_whole (word_bits * j) counts) (sym (over_word j (word_in patterns i) counts (fits j) (omega arith)))

pub ports_of-ports-requires : goal.ports_of-ports-requires
ports_of-ports-requires c =
    let t = c.args.patterns.now in
    let i = c.args.i in
    let n = length c.args.counts.now in
    record {
      counts_bound = c.requires.small;
      by_index = λ r h. rw c.word_at.ensures
          (no_bit t i n c.requires.entry c.requires.within 0 (words_some t) (c.type_inv.patterns (stride * 0 + i)).fits r (omega arith));
    }

pub loop-j-init : goal.loop-j-init
loop-j-init c =
    let first = word_in c.args.patterns.now c.args.i in
    record {
      few = words_some c.args.patterns.now;
      counted = c.ports_of-ports.ensures ∙ rw c.word_at.ensures (sym (over_first first c.args.counts.now (c.type_inv.patterns (stride * 0 + c.args.i)).fits));
    }

pub word_at-requires : goal.word_at-requires
word_at-requires c = (c.requires.entry, words_some c.args.patterns.now)

pub ports_of-ports-requires-in-loop-j : goal.ports_of-ports-requires-in-loop-j
ports_of-ports-requires-in-loop-j c =
    let a = c.args in
    let fits = λ (m : ℕ). (c.type_inv.patterns (stride * m + a.i)).fits in
    let inside : word_bits * c.loop-j.j < length a.counts.now = omega (arith, c.div_ceil-j-end.ensures) in
    record {
      counts_bound = small a.patterns.now a.i a.counts.now c.requires fits c.loop-j.j inside;
      by_index = rw c.word_at-in-loop-j.ensures (no_more a.patterns.now a.i a.counts.now c.requires fits c.loop-j.j inside);
    }

pub overflow_add-ports : goal.overflow_add-ports
overflow_add-ports c =
    let a = c.args in
    let inside : word_bits * c.loop-j.j < length a.counts.now = omega (arith, c.div_ceil-j-end.ensures) in
    let ports =
    more a.patterns.now a.i a.counts.now c.requires (λ m. (c.type_inv.patterns (stride * m + a.i)).fits) c.loop-j.j inside
    c.loop-j.invariant.counted c.word_at-in-loop-j.ensures c.ports_of-ports-in-loop-j.ensures in
    omega (arith, ports, over_le a.counts.now (covers_words (c.loop-j.j + 1) (word_in a.patterns.now a.i)), c.requires.small)

pub loop-j-preserved : goal.loop-j-preserved
loop-j-preserved c =
    let a = c.args in
    let inside : word_bits * c.loop-j.j < length a.counts.now = omega (arith, c.div_ceil-j-end.ensures) in
    record {
      few = omega (arith, c.requires.room);
      counted = more a.patterns.now a.i a.counts.now c.requires (λ m. (c.type_inv.patterns (stride * m + a.i)).fits) c.loop-j.j inside
          c.loop-j.invariant.counted c.word_at-in-loop-j.ensures c.ports_of-ports-in-loop-j.ensures;
    }

pub returns : goal.returns
returns c =
    let t = c.args.patterns.now in
    let cs = c.args.counts.now in
    let all : length cs ≤ word_bits * c.loop-j.j = omega (arith, c.div_ceil-j-end.ensures) in
    c.loop-j.invariant.counted ∙ sym (over_short c.loop-j.j (words_in t) (word_in t c.args.i) cs c.loop-j.invariant.few all)
    ∙ sym (over_same cs (covers_at t c.args.i) _ (λ r _. covers_words_lem t c.args.i r c.requires.entry))
