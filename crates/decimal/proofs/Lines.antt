-- Words as text: their signs, and how long their text is.
-- Assumes nothing.
use mathlib.Core.Path.{◌≡◌, refl}
use mathlib.Core.Bool.{true, false, true≢false}
use mathlib.Core.List.{List, [], ◌∷◌, ◌++◌}
use Prim.Native.Nat.{ℕ, ◌+◌, ◌<◌, ◌≤◌}
use native.Mathlib.Nat.{not-suc-le-zero, lt_of_le_of_lt}
use native.Mathlib.Numerals.{add-one}
use native.Mathlib.Omega.{arith}
use borrow.Author.Tests.{ltb-true}
use lib.Dec.{lit<}
use lib.IntN.{ℤ, pos, negsuc, nat_abs}
use lib.ListN.{length, drop, get_or, drop_of_length-le}
use lib.Seq.{drop-cons, append_snoc}
use lib.Signed.{lt_z}
use mir.Syntax.{w32}
use mir.Val.{SFits}
use Rattle.decimal.specs.Reading.{minus, most_negative}
use Rattle.decimal.specs.Printing.{decimal, word_text, ending, line_text}
use Rattle.decimal.proofs.Decimals.{decimal-length}

pub negative_text : (z : ℤ) → lt_z z (pos 0) ≡ true → word_text z ≡ minus ∷ decimal (nat_abs z)
unfolding word_text
negative_text (pos n) h = absurd (not-suc-le-zero (ltb-true n 0 h))
negative_text (negsuc n) h = refl

pub positive_text : (z : ℤ) → lt_z z (pos 0) ≡ false → word_text z ≡ decimal (nat_abs z)
unfolding word_text
positive_text (pos n) h = refl
positive_text (negsuc n) h = absurd (true≢false h)

-- a word has at most ten digits
pub word_digits : (z : ℤ) → SFits w32 z → length (decimal (nat_abs z)) ≤ 10
word_digits z f = decimal-length 9 (nat_abs z) (lt_of_le_of_lt (small z f) (lit< tt))
  where
    small : (z : ℤ) → SFits w32 z → nat_abs z ≤ most_negative
    small (pos n) f = omega (arith, f.sfits)
    small (negsuc n) f = omega (arith, f.sfits)

pub line_none : (ws : List ℤ) (i : ℕ) → length ws ≤ i → line_text (drop i ws) ≡ []
unfolding line_text
line_none ws i h = rw (drop_of_length-le ws h)

pub line_step : (ws : List ℤ) (i : ℕ) → i < length ws → {b : ℕ} → b ≡ ending (drop (i + 1) ws)
    → line_text (drop i ws) ≡ (word_text (get_or ws i (pos 0)) ++ (b ∷ [])) ++ line_text (drop (i + 1) ws)
unfolding line_text
line_step ws i h e = rw (append_snoc (word_text (get_or ws i (pos 0))) _ (line_text (drop (i + 1) ws)), drop-cons ws i (pos 0) h, e, add-one i)
