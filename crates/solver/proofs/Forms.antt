-- The text of each form of expression, as the writer puts it together from bytes and numbers. Assumes nothing.
use mathlib.Core.Path.{◌≡◌, refl}
use mathlib.Core.Bool.{true, false, true≢false}
use mathlib.Core.List.{◌++◌, append_assoc}
use Prim.Native.Nat.{ℕ, zero, suc}
use native.Mathlib.Nat.{not-suc-le-zero}
use native.Mathlib.Omega.{arith}
use borrow.Author.Tests.{ltb-true}
use lib.IntN.{ℤ, pos, negsuc, nat_abs}
use lib.Signed.{lt_z}
use Rattle.decimal.specs.Printing.{decimal}
use Rattle.sentence.specs.Bytes.{bytes}
use Rattle.sentence.specs.Text.{name_text, expr_text}
use Rattle.sentence.proofs.Expressions.{zero_text, parts}
use Rattle.solver.specs.Pieces.{one_text, two_text, multiple_text, divided_text}

-- ---- multiples

pub multiple_below : (w : ℤ) (b : ℕ) → lt_z w (pos 0) ≡ true → multiple_text w b ≡ two_text (bytes "(* (- ") (nat_abs w) (bytes ") n") b (bytes ")")
unfolding expr_text name_text
multiple_below (pos n) b h = absurd (not-suc-le-zero (ltb-true n 0 h))
multiple_below (negsuc n) b h = rw (append_assoc (decimal (suc n)) (bytes ")") (bytes " n" ++ (decimal b ++ bytes ")")))

pub multiple_from_0 : (w : ℤ) (b : ℕ) → lt_z w (pos 0) ≡ false → multiple_text w b ≡ two_text (bytes "(* ") (nat_abs w) (bytes " n") b (bytes ")")
unfolding expr_text name_text
multiple_from_0 (pos n) b h = refl
multiple_from_0 (negsuc n) b h = absurd (true≢false h)

-- ---- "divides"

pub divided_0 : (w : ℤ) (b : ℕ) → nat_abs w ≡ 0 → divided_text w b ≡ one_text (bytes "(and false (= n") b (bytes " 0))")
unfolding expr_text name_text
divided_0 (pos zero) b h = rw (zero_text, append_assoc (decimal b) (bytes " 0)") (bytes ")"))
divided_0 (pos (suc n)) b h = absurd (omega arith)
divided_0 (negsuc n) b h = absurd (omega arith)

pub divided_below : (w : ℤ) (b : ℕ) → lt_z w (pos 0) ≡ true → divided_text w b ≡ two_text (bytes "(= 0 (mod n") b (bytes " ") (nat_abs w) (bytes "))")
unfolding expr_text name_text
divided_below (pos n) b h = absurd (not-suc-le-zero (ltb-true n 0 h))
divided_below (negsuc n) b h = rw (zero_text, parts (decimal b) (bytes " ") (decimal (suc n)) (bytes ")") (bytes ")"))

pub divided_above : (w : ℤ) (b : ℕ) → (nat_abs w ≡ 0 → ⊥) → lt_z w (pos 0) ≡ false
    → divided_text w b ≡ two_text (bytes "(= (mod n") b (bytes " ") (nat_abs w) (bytes ") 0)")
unfolding expr_text name_text
divided_above (pos zero) b n h = absurd (n refl)
divided_above (pos (suc k)) b n h = rw (zero_text, parts (decimal b) (bytes " ") (decimal (suc k)) (bytes ")") (bytes " 0)"))
divided_above (negsuc k) b n h = absurd (true≢false h)
