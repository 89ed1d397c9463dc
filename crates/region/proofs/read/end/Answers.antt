-- `region::end` meets its contract: the last word that is not 0, without its leading zeros, ends there. Assumes nothing.
use mathlib.Core.Path.{◌≡◌, sym, ◌∙◌}
use Prim.Native.Nat.{ℕ, ◌+◌, ◌-◌, ◌*◌, ◌≤◌, ◌<◌}
use native.Mathlib.Decide.{dec_le}
use native.Mathlib.Omega.{arith}
use lib.Count.{count_leading_zeros, leading_length}
use Rattle.region.specs.Pattern.{word_bits, stride, words_in, word_in}
use Rattle.region.proofs.Pattern.{words_few, last_word, no_word}
use Rattle.region.proofs.read.end.Goals as goal

-- the words from j on are 0, and so is the one before
one_more : (f : ℕ → ℕ) (j w : ℕ) → ((m : ℕ) → j ≤ m → m < w → f m ≡ 0) → f (j - 1) ≡ 0 → (m : ℕ) → j - 1 ≤ m → m < w → f m ≡ 0
one_more f j w all z m h k = go (dec_le j m)
  where
    go : Dec (j ≤ m) → f m ≡ 0
    go (yes l) = all m l k
    go (no l) =
        let e : j - 1 ≡ m = omega arith in
        rw e at z

pub loop-j-init : goal.loop-j-init
loop-j-init c m h k = absurd (omega (arith, c.words_in-j.ensures))

pub returns-then-word-ne0 : goal.returns-then-word-ne0
returns-then-word-ne0 c =
    let t = c.args.patterns.now in
    let j = c.loop-j.j - 1 in
    let here = word_in t c.args.i j in
    let below : j < words_in t = omega (arith, c.words_in-j.ensures) in
    let bits = leading_length word_bits here (c.type_inv.patterns (stride * j + c.args.i)).fits in
    let end : 64 * (j + 1) - count_leading_zeros 64 here ≡ word_bits * j + bits.0 = omega (arith, bits.1) in
    rw (c.word_at-word.ensures, end) (
      last_word t c.args.i j bits.0 c.requires below (omega (arith, bits.1)) bits.2 bits.3 (λ z. c.if-word-ne0.true (c.word_at-word.ensures ∙ z))
          (λ m h k. c.loop-j.invariant m (omega arith) k),
      omega (arith, below, words_few t, bits.1),
    )

pub loop-j-preserved : goal.loop-j-preserved
loop-j-preserved c =
    let t = c.args.patterns.now in
    one_more (word_in t c.args.i) c.loop-j.j (words_in t) c.loop-j.invariant (sym c.word_at-word.ensures ∙ c.if-word-ne0.false)

pub returns : goal.returns
returns c = (no_word c.args.patterns.now c.args.i c.requires (λ m h. c.loop-j.invariant m (omega arith) h), omega arith)
