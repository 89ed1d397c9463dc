-- `region::put` meets its contract: the entry takes its form word by word, and the words of the operands that are still to be read stand. Assumes nothing.
use mathlib.Core.Path.{◌≡◌, ◌∙◌, ap}
use mathlib.Core.List.{List}
use Prim.Native.Nat.{ℕ, ◌+◌, ◌*◌, ◌<◌}
use native.Mathlib.Omega.{arith}
use Rattle.checker.specs.Meaning.{Set}
use Rattle.region.specs.Pattern.{covers, word_bits, pattern_bits, stride, entries, words_in, room_in, word_in, covers_at}
use Rattle.region.proofs.Pattern.{Stored, stored_more, stored_bit, stored_put, covering_past, asks_more, covers_beyond, words_few, word_there, entries_same, words_same}
use Rattle.region.proofs.write.put.Goals as goal

module _ {l now : List ℕ} {i j : ℕ} {wanted : Set} (s : Stored l i wanted j now) (inside : j < words_in l) where
  readable : (a : ℕ) → a < entries l → (a < entries now) × (j < words_in now)
  readable a h = (rw (entries_same l now s.long) h, rw (words_same l now s.long) inside)

  read : (a p : ℕ) → i < stride → p ≡ word_in now a j → a < entries l → (b : ℕ) → b < word_bits → covers p b ≡ covers_at l a (word_bits * j + b)
  read a p here e h b k = ap (λ (q : ℕ). covers q b) e ∙ stored_bit j here inside s a b h k

pub word_at-requires : goal.word_at-requires
word_at-requires c = readable c.loop-j.invariant (omega (arith, c.words_in-j-end.ensures)) c.args.a c.requires.1

pub word_at-requires-in-loop-j : goal.word_at-requires-in-loop-j
word_at-requires-in-loop-j c = readable c.loop-j.invariant (omega (arith, c.words_in-j-end.ensures)) c.args.b c.requires.2

pub word-new-requires : goal.word-new-requires
word-new-requires c =
    let few = words_few c.args.patterns.now in
    (asks_more c.args.form (room_in c.args.patterns.now) pattern_bits c.requires.3 (omega arith), omega (arith, c.words_in-j-end.ensures))

pub loop-j-preserved : goal.loop-j-preserved
loop-j-preserved c =
    let a = c.args in
    let l = c.loop-j in
    let inside : l.j < words_in a.patterns.now = omega (arith, c.words_in-j-end.ensures) in
    let there = word_there a.patterns.now a.i l.j c.requires.0 inside in
    stored_more l.j c.word-new.result there.1
    (c.word-new.ensures (covers_at a.patterns.now a.a) (covers_at a.patterns.now a.b)
    (read l.invariant inside a.a _ there.0 c.word_at.ensures c.requires.1)
    (read l.invariant inside a.b _ there.0 c.word_at-in-loop-j.ensures c.requires.2)) l.invariant

pub returns : goal.returns
returns c =
    let t = c.args.patterns.now in
    stored_put c.loop-j.j c.requires.0 (omega (arith, c.words_in-j-end.ensures))
    (λ r h. covering_past c.args.form (room_in t) _ _ r c.requires.3 h (covers_beyond t c.args.a r h) (covers_beyond t c.args.b r h))
    c.loop-j.invariant
