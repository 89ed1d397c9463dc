-- `text::read_input` meets its contract. Assumes nothing.
use mathlib.Core.Path.{◌≡◌, refl}
use lib.ListN.{length}
use borrow.Author.Tests.{le-leb, lt-leb}
use Rattle.decimal.specs.Reading.{scanned_of, onto}
use Rattle.text.specs.Answer.{max_bytes, max_numbers, input_words}
use borrow.Author.Rules.{rules}
use Rattle.text.proofs.read_input.Goals as goal

pub returns-then-input-gt-MAX_BYTES : goal.returns-then-input-gt-MAX_BYTES
unfolding input_words scanned_of onto
returns-then-input-gt-MAX_BYTES c =
    rw (lt-leb _ max_bytes c.if-input-gt-MAX_BYTES.true) (record { value = refl; words_after = refl })

pub returns : goal.returns
unfolding input_words
returns c =
    let n : length c.args.words.now ≡ max_numbers = search rules in
    rw (le-leb _ max_bytes c.if-input-gt-MAX_BYTES.false, ← n) (record { value = c.read_words.ensures.value; words_after = c.read_words.ensures.out_after })
