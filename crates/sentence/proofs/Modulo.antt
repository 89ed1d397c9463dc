-- `mod_z` is SMT-LIB's mod, and a remainder of 0 is divisibility. Assumes nothing.
use mathlib.Core.Path.{◌≡◌, refl, sym, ap, ◌∙◌}
use Prim.Native.Nat.{ℕ, zero, suc, ◌+◌, ◌*◌, ◌-◌, ◌%◌, ◌/◌, ◌<◌, ◌≤◌}
use native.Mathlib.Nat.{suc-mod, mod-lt, mod-eq_of_lt, mod_self, div-add-mod, mul-suc}
use native.Mathlib.Decide.{dec_lt}
use native.Mathlib.Omega.{arith}
use borrow.Author.Tests.{lt-ltb, ne_eqb}
use lib.Dec.{eqb, eqb-zero-suc, eqb-suc-zero}
use lib.IntN.{ℤ, pos, negsuc, nat_abs, neg_ℤ, sub_ℕ, ◌*ℤ◌, *ℤ-zero}
use Rattle.checker.specs.Meaning.{eq_z, divides}
use Rattle.sentence.specs.Smt.{Remainder, mod_z}

-- ---- the remainder

difference : (x r m : ℕ) → r ≤ x → x - r ≡ m → sub_ℕ r (suc x) ≡ negsuc m
difference x r m h e =
    let l : r < suc x = omega arith in
    let f : suc x - suc r ≡ m = omega arith in
    rw (lt-ltb r (suc x) l, f)

product : (k d : ℕ) → suc k * suc d ≡ suc (suc k * d + k)
product k d = mul-suc (suc k) d ∙ omega arith

modulo_positive : (t : ℤ) (k : ℕ) → Remainder t (pos (suc k)) (mod_z t (pos (suc k)))
unfolding mod_z
modulo_positive (pos m) k =
    record {
      quotient = pos (m / suc k);
      rest = m % suc k;
      is = refl;
      small = mod-lt m (omega arith);
      whole = ap pos (sym (div-add-mod m (suc k)));
    }
modulo_positive (negsuc m) k =
    let l : m % suc k < suc k = mod-lt m (omega arith) in
    let e : suc k * (m / suc k) + m % suc k ≡ m = div-add-mod m (suc k) in
    record {
      quotient = negsuc (m / suc k);
      rest = suc k - 1 - m % suc k;
      is = refl;
      small = omega arith;
      whole = sym (rw (product k (m / suc k)) (difference (suc k * (m / suc k) + k) (suc k - 1 - m % suc k) m (omega arith) (omega arith)));
    }

-- the divisor's sign goes into the quotient
sign_moved : (k : ℕ) (q : ℤ) → pos (suc k) *ℤ q ≡ negsuc k *ℤ neg_ℤ q
sign_moved k (pos zero) = *ℤ-zero (pos (suc k)) ∙ sym (*ℤ-zero (negsuc k))
sign_moved k (pos (suc n)) = refl
sign_moved k (negsuc n) = refl

sign_lost : (t : ℤ) (k : ℕ) → mod_z t (negsuc k) ≡ mod_z t (pos (suc k))
unfolding mod_z
sign_lost (pos m) k = refl
sign_lost (negsuc m) k = refl

pub modulo_right : (t c : ℤ) → 0 < nat_abs c → Remainder t c (mod_z t c)
modulo_right t (pos zero) h = absurd (omega arith)
modulo_right t (pos (suc k)) h = modulo_positive t k
modulo_right t (negsuc k) h =
    let r = modulo_positive t k in
    record {
      quotient = neg_ℤ r.quotient;
      rest = r.rest;
      is = sign_lost t k ∙ r.is;
      small = r.small;
      whole = rw (sign_lost t k, ← sign_moved k r.quotient) r.whole;
    }

-- ---- divisibility

negative : (m k : ℕ) → eqb (suc k - 1 - m % suc k) 0 ≡ eqb (suc m % suc k) 0
negative m k = go (dec_lt (m % suc k) k)
  where
    e : suc k - 1 - m % suc k ≡ k - m % suc k
    e = omega arith

    top : m % suc k < suc k
    top = mod-lt m (omega arith)

    go : Dec (m % suc k < k) → eqb (suc k - 1 - m % suc k) 0 ≡ eqb (suc m % suc k) 0
    go (yes h) =
        let f : suc (m % suc k) < suc k = omega arith in
        rw (e, ne_eqb (k - m % suc k) 0 (λ g. omega arith), suc-mod m (suc k), mod-eq_of_lt f) (sym (eqb-suc-zero (m % suc k)))
    go (no h) =
        let f : m % suc k ≡ k = omega (arith, top) in
        let g : k - k ≡ 0 = omega arith in
        rw (e, suc-mod m (suc k), f, mod_self (suc k), g)

mod_zero : (t : ℤ) (k : ℕ) → eq_z (mod_z t (pos (suc k))) (pos 0) ≡ eqb (nat_abs t % suc k) 0
unfolding mod_z
mod_zero (pos m) k = refl
mod_zero (negsuc m) k = negative m k

eq_z_swap : (m : ℕ) → eq_z (pos 0) (pos m) ≡ eq_z (pos m) (pos 0)
eq_z_swap zero = refl
eq_z_swap (suc m) = eqb-zero-suc m ∙ sym (eqb-suc-zero m)

mod_swap : (t : ℤ) (k : ℕ) → eq_z (pos 0) (mod_z t (pos k)) ≡ eq_z (mod_z t (pos k)) (pos 0)
unfolding mod_z
mod_swap (pos m) k = eq_z_swap (m % k)
mod_swap (negsuc m) k = eq_z_swap (k - 1 - m % k)

-- the remainder by |c| is 0, on either side, exactly if c divides t
pub divides_positive : (t : ℤ) (k : ℕ) → eq_z (mod_z t (pos (suc k))) (pos 0) ≡ divides (pos (suc k)) t
unfolding divides
divides_positive t k = rw (eqb-suc-zero k) (mod_zero t k)

pub divides_negative : (t : ℤ) (k : ℕ) → eq_z (pos 0) (mod_z t (pos (suc k))) ≡ divides (negsuc k) t
unfolding divides
divides_negative t k = rw (eqb-suc-zero k) (mod_swap t (suc k) ∙ mod_zero t k)
