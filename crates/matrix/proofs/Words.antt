-- Tests on a signed number's bits, as the code makes them, for words of any width. Assumes nothing.
use Rattle.std.proofs.Common.{◌≡◌, refl, sym, ap, ◌∙◌, false, eqb, ℕ, zero, suc, ◌-◌, ◌/◌, ◌%◌, ◌^◌, ◌≤◌, ◌<◌, ◌⊎◌, inl, inr, ℤ, pos, negsuc, w32, of_z, arith}
use Rattle.std.proofs.Math.IntN.{neg_ℤ, nat_abs}
use Rattle.std.proofs.Math.Nat.{mod-le}
use Prim.Native.Nat.{zero-le}
use native.Mathlib.Nat.{div-le_self, le_trans}
use Rattle.std.proofs.lemmas.Bool.Decides.{nat_tests}
use borrow.Author.Tests.{ne_eqb}
use lib.Signed.{mag, quot_z, rem_z}
use mir.Syntax.{Width}
use mir.Val.{bits, hbits, SFits}
use mir.ValLaws.{pow-bits}
use Rattle.checker.specs.Kinds.{no_number, number}
use Rattle.checker.specs.Meaning.{eq_z, divides}

mag_neg : (r : ℕ) → mag (neg_ℤ (pos r)) ≤ r
mag_neg zero = zero-le
mag_neg (suc r) = omega arith

mag_quot : (z d : ℤ) → mag (quot_z z d) ≤ nat_abs z
mag_quot (pos a) (pos b) = div-le_self a b
mag_quot (pos a) (negsuc b) = le_trans (mag_neg (a / suc b)) (div-le_self a (suc b))
mag_quot (negsuc a) (pos b) = le_trans (mag_neg (suc a / b)) (div-le_self (suc a) b)
mag_quot (negsuc a) (negsuc b) = div-le_self (suc a) (suc b)

module _ (w : Width) where
  negative_same : (a b : ℕ) → a < 2 ^ hbits w → b < 2 ^ hbits w → eqb (2 ^ bits w - suc a) (2 ^ bits w - suc b) ≡ eqb a b
  negative_same a b p q = let h = pow-bits w in grind (arith, nat_tests)

  pub bits_same : (x y : ℤ) → SFits w x → SFits w y → eqb (of_z w x) (of_z w y) ≡ eq_z x y
  bits_same (pos a) (pos b) p q = refl
  bits_same (pos a) (negsuc b) p q = ne_eqb a (2 ^ bits w - suc b) (λ e. omega (arith, p.sfits, q.sfits, pow-bits w))
  bits_same (negsuc a) (pos b) p q = ne_eqb (2 ^ bits w - suc a) b (λ e. omega (arith, p.sfits, q.sfits, pow-bits w))
  bits_same (negsuc a) (negsuc b) p q = negative_same a b p.sfits q.sfits

  -- bits that are a small number's
  pub bits_pos : (z : ℤ) (n : ℕ) → SFits w z → n < 2 ^ hbits w → of_z w z ≡ n → z ≡ pos n
  bits_pos (pos a) n p h e = ap pos e
  bits_pos (negsuc a) n p h e = absurd (omega (arith, p.sfits, pow-bits w))

  -- ---- division

  pub quotient_fits : (z d : ℤ) → nat_abs z < 2 ^ hbits w → SFits w (quot_z z d)
  quotient_fits z d h = record { sfits = omega (arith, mag_quot z d) }

  negative_zero : (r : ℕ) → r < 2 ^ hbits w → eqb (of_z w (neg_ℤ (pos r))) 0 ≡ eqb r 0
  negative_zero zero h = refl
  negative_zero (suc r) h = ne_eqb (2 ^ bits w - suc r) 0 (λ e. omega (arith, pow-bits w)) ∙ sym (ne_eqb (suc r) 0 (λ e. omega arith))

  remainder_zero : (t c : ℤ) → nat_abs t < 2 ^ hbits w → eqb (of_z w (rem_z t c)) 0 ≡ eqb (nat_abs t % nat_abs c) 0
  remainder_zero (pos a) c h = refl
  remainder_zero (negsuc a) c h = negative_zero (suc a % nat_abs c) (omega (arith, mod-le (suc a) (nat_abs c)))

  nonzero : (z : ℤ) → (of_z w z ≡ 0 → ⊥) → eqb (nat_abs z) 0 ≡ false
  nonzero (pos a) f = ne_eqb a 0 f
  nonzero (negsuc a) f = ne_eqb (suc a) 0 (λ e. omega arith)

  pub divides_is : (c t : ℤ) → (of_z w c ≡ 0 → ⊥) → nat_abs t < 2 ^ hbits w → eqb (of_z w (rem_z t c)) 0 ≡ divides c t
  unfolding divides
  divides_is c t f h = remainder_zero t c h ∙ rw (nonzero c f)

-- a word that is a number, told by its bits
pub number_bits : (z : ℤ) → SFits w32 z → ((of_z w32 z < 2 ^ 31) × (number z ≡ of_z w32 z)) ⊎ ((2 ^ 31 ≤ of_z w32 z) × (number z ≡ no_number))
unfolding number
number_bits (pos n) f = inl (f.sfits, refl)
number_bits (negsuc n) f = inr (omega (arith, f.sfits), refl)
