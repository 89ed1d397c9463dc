-- The bits of a number: by recursion on the place, and what the operations on words make of them. For any number of bits.
-- Assumes nothing.
use mathlib.Core.Path.{◌≡◌, refl, sym, ◌∙◌, ap}
use mathlib.Core.Bool.{Bool, true, false, not, xor, ◌&&◌, ◌||◌, and-true}
use Prim.Native.Nat.{ℕ, zero, suc, ◌+◌, ◌-◌, ◌*◌, ◌/◌, ◌%◌, ◌^◌, ◌≤◌, ◌<◌}
use native.Mathlib.Decide.{dec_le}
use native.Mathlib.Nat.{div-one, pow-succ', div-eq_of_lt, zero-div, mod-lt, mul_assoc, pow-suc, zero-lt-suc, lt_of_lt_of_le}
use native.Mathlib.Numerals.{add-one, one-add}
use native.Mathlib.Omega.{arith}
use borrow.Author.Tests.{lt-ltb, le-ltb}
use lib.Dec.{eqb, ltb, leb-zero, leb-suc-zero, leb-suc-suc}
use lib.Pow.{pow_pos, pow_mono, shr-shr, high}
use lib.Bits.{bit_and, bit_or, bit_xor, and_shr, or_shr, xor_shr, and_mod, or_mod, xor_mod}
use Rattle.checker.specs.Meaning.{Set, bit}
use Rattle.region.specs.Regions.{half, odd}
use Rattle.region.specs.Pattern.{covers}
use Rattle.region.proofs.Regions.{double_half, double_odd}

-- ---- by recursion on the place

pub covers-zero : (p : ℕ) → covers p 0 ≡ odd p
unfolding covers
covers-zero p = rw div-one

pub covers-suc : (p r : ℕ) → covers p (suc r) ≡ covers (half p) r
unfolding covers
covers-suc p r = rw (← one-add r, ← shr-shr p 1 r)

pub covers_shift : (p k r : ℕ) → covers (p / 2 ^ k) r ≡ covers p (k + r)
unfolding covers
covers_shift p k r = rw (shr-shr p k r)

pub covers_of_zero : (r : ℕ) → covers 0 r ≡ false
unfolding covers
covers_of_zero r = rw zero-div

-- no bit stands at or above the number of bits
pub covers_high : (k p r : ℕ) → p < 2 ^ k → k ≤ r → covers p r ≡ false
unfolding covers
covers_high k p r h l = rw (div-eq_of_lt (lt_of_lt_of_le h (pow_mono l)))

-- the highest bit of a number of m bits and no fewer
pub covers_last : (m p r : ℕ) → p < 2 ^ m → 2 ^ m ≤ 2 * p + 1 → r + 1 ≡ m → covers p r ≡ true
unfolding covers
covers_last m p r h k e =
    let twice : 2 ^ m ≡ 2 * 2 ^ r = ap (λ (n : ℕ). 2 ^ n) (sym e ∙ add-one r) ∙ pow-succ' 2 r in
    let parts : p ≡ 1 * 2 ^ r + (p - 2 ^ r) = omega arith in
    let one : p / 2 ^ r ≡ 1 = ap (λ (n : ℕ). n / 2 ^ r) parts ∙ high 1 r (omega arith) in
    rw one

-- what stands above a bit does not matter to it
covers_low : (k c b : ℕ) → covers (2 ^ suc k * c + b) k ≡ covers b k
covers_low zero c b =
    let e : (2 ^ 1 * c + b) % 2 ≡ b % 2 = omega arith in
    rw (covers-zero (2 ^ 1 * c + b), covers-zero b, e)
covers_low (suc k) c b =
    let twice : 2 ^ suc (suc k) * c ≡ 2 * (2 ^ suc k * c) = rw (pow-succ' 2 (suc k)) (mul_assoc 2 (2 ^ suc k) c) in
    let halves : (2 ^ suc (suc k) * c + b) / 2 ≡ 2 ^ suc k * c + b / 2 = omega arith in
    rw (covers-suc (2 ^ suc (suc k) * c + b) k, covers-suc b k, halves) (covers_low k c (b / 2))

-- The bits of 64 j + b, b being below 64: the lowest six are those of b, and the others those of j.
pub covers_in_word : (k j b : ℕ) → k < 6 → covers (64 * j + b) k ≡ covers b k
covers_in_word k j b h = go k h
  where
    part : (k c : ℕ) → 64 * j ≡ 2 ^ suc k * c → covers (64 * j + b) k ≡ covers b k
    part k c e = rw e (covers_low k c b)

    go : (k : ℕ) → k < 6 → covers (64 * j + b) k ≡ covers b k
    go zero h = part 0 (32 * j) (omega arith)
    go (suc zero) h = part 1 (16 * j) (omega arith)
    go (suc (suc zero)) h = part 2 (8 * j) (omega arith)
    go (suc (suc (suc zero))) h = part 3 (4 * j) (omega arith)
    go (suc (suc (suc (suc zero)))) h = part 4 (2 * j) (omega arith)
    go (suc (suc (suc (suc (suc zero))))) h = part 5 j (omega arith)
    go (suc (suc (suc (suc (suc (suc k)))))) h = absurd (omega arith)

pub covers_of_word : (k j b : ℕ) → 6 ≤ k → b < 64 → covers (64 * j + b) k ≡ covers j (k - 6)
covers_of_word k j b h l =
    let word : (64 * j + b) / 2 ^ 6 ≡ j = omega arith in
    let place : 6 + (k - 6) ≡ k = omega arith in
    rw (place, word) at (sym (covers_shift (64 * j + b) 6 (k - 6)))

-- ---- operations on two numbers

two_digits : (P : ℕ → ℕ → Type 0) → P 0 0 → P 0 1 → P 1 0 → P 1 1 → (x y : ℕ) → x < 2 → y < 2 → P x y
two_digits P a b c d zero zero h k = a
two_digits P a b c d zero (suc zero) h k = b
two_digits P a b c d zero (suc (suc y)) h k = absurd (omega arith)
two_digits P a b c d (suc zero) zero h k = c
two_digits P a b c d (suc zero) (suc zero) h k = d
two_digits P a b c d (suc zero) (suc (suc y)) h k = absurd (omega arith)
two_digits P a b c d (suc (suc x)) y h k = absurd (omega arith)

digit< : (p r : ℕ) → p / 2 ^ r % 2 < 2
digit< p r = mod-lt (p / 2 ^ r) (zero-lt-suc 1)

pub covers-and : (p q r : ℕ) → covers (bit_and p q) r ≡ (covers p r && covers q r)
unfolding covers
covers-and p q r =
    rw (and_shr p q r, and_mod (p / 2 ^ r) (q / 2 ^ r) 1)
    (two_digits (λ (x y : ℕ). eqb (bit_and x y) 1 ≡ (eqb x 1 && eqb y 1)) refl refl refl refl _ _ (digit< p r) (digit< q r))

pub covers-or : (p q r : ℕ) → covers (bit_or p q) r ≡ (covers p r || covers q r)
unfolding covers
covers-or p q r =
    rw (or_shr p q r, or_mod (p / 2 ^ r) (q / 2 ^ r) 1)
    (two_digits (λ (x y : ℕ). eqb (bit_or x y) 1 ≡ (eqb x 1 || eqb y 1)) refl refl refl refl _ _ (digit< p r) (digit< q r))

pub covers-xor : (p q r : ℕ) → covers (bit_xor p q) r ≡ xor (covers p r) (covers q r)
unfolding covers xor
covers-xor p q r =
    rw (xor_shr p q r, xor_mod (p / 2 ^ r) (q / 2 ^ r) 1)
    (two_digits (λ (x y : ℕ). eqb (bit_xor x y) 1 ≡ xor (eqb x 1) (eqb y 1)) refl refl refl refl _ _ (digit< p r) (digit< q r))

-- ---- all k bits turned over

ltb_zero : (k : ℕ) → ltb 0 (suc k) ≡ true
ltb_zero k = leb-suc-suc 0 k ∙ leb-zero k

odd-not : (d e : ℕ) → d + e ≡ 1 → eqb d 1 ≡ not (eqb e 1)
odd-not zero zero h = absurd (omega arith)
odd-not zero (suc zero) h = refl
odd-not zero (suc (suc e)) h = absurd (omega arith)
odd-not (suc zero) zero h = refl
odd-not (suc zero) (suc e) h = absurd (omega arith)
odd-not (suc (suc d)) e h = absurd (omega arith)

pub covers-not : (k p r : ℕ) → p < 2 ^ k → covers (2 ^ k - 1 - p) r ≡ (ltb r k && not (covers p r))
covers-not zero p r h =
    let none : 2 ^ 0 - 1 - p ≡ 0 = omega arith in
    rw (none, covers_of_zero r, leb-suc-zero r)
covers-not (suc k) p zero h =
    rw (covers-zero (2 ^ suc k - 1 - p), covers-zero p, ltb_zero k) (odd-not ((2 ^ suc k - 1 - p) % 2) (p % 2) (omega (arith, pow-suc 2 k)))
covers-not (suc k) p (suc r) h =
    let halves : (2 ^ suc k - 1 - p) / 2 ≡ 2 ^ k - 1 - p / 2 = omega (arith, pow-suc 2 k) in
    rw (covers-suc (2 ^ suc k - 1 - p) r, covers-suc p r, halves, leb-suc-suc (suc r) k) (covers-not k (p / 2) r (omega (arith, pow-suc 2 k)))

-- the bits of p that q has not
pub covers-minus : (k p q r : ℕ) → p < 2 ^ k → q < 2 ^ k → covers (bit_and p (2 ^ k - 1 - q)) r ≡ (covers p r && not (covers q r))
covers-minus k p q r hp hq = rw (covers-and p (2 ^ k - 1 - q) r, covers-not k q r hq) (go (dec_le k r))
  where
    go : Dec (k ≤ r) → (covers p r && (ltb r k && not (covers q r))) ≡ (covers p r && not (covers q r))
    go (yes h) = rw (covers_high k p r hp h)
    go (no h) = let l : r < k = omega arith in rw (lt-ltb r k l)

-- k bits that are all set
pub covers_ones : (k r : ℕ) → covers (2 ^ k - 1) r ≡ ltb r k
covers_ones k r =
    let all : 2 ^ k - 1 - 0 ≡ 2 ^ k - 1 = omega arith in
    rw (all, covers_of_zero r, and-true (ltb r k)) at (covers-not k 0 r (pow_pos k))

-- k bits that are all set, moved down until n are left
pub covers_top : (k n r : ℕ) → r < k → covers ((2 ^ k - 1) / 2 ^ (k - n)) r ≡ ltb r n
covers_top k n r h = covers_shift (2 ^ k - 1) (k - n) r ∙ covers_ones k (k - n + r) ∙ go (dec_le n r)
  where
    go : Dec (n ≤ r) → ltb (k - n + r) k ≡ ltb r n
    go (yes l) = rw (le-ltb (k - n + r) k (omega arith), le-ltb r n l)
    go (no l) = rw (lt-ltb (k - n + r) k (omega arith), lt-ltb r n (omega arith))

pub covers_top_few : (k n r : ℕ) → n ≤ k → covers ((2 ^ k - 1) / 2 ^ (k - n)) r ≡ ltb r n
covers_top_few k n r h = covers_shift (2 ^ k - 1) (k - n) r ∙ covers_ones k (k - n + r) ∙ go (dec_le n r)
  where
    go : Dec (n ≤ r) → ltb (k - n + r) k ≡ ltb r n
    go (yes l) = rw (le-ltb (k - n + r) k (omega arith), le-ltb r n l)
    go (no l) = rw (lt-ltb (k - n + r) k (omega arith), lt-ltb r n (omega arith))

-- a set that is cut to n places of the k that there are
pub cut_twice : (k n r : ℕ) (b : Bool) → n ≤ k → (ltb r n && (ltb r k && b)) ≡ (ltb r n && b)
cut_twice k n r b h = go (dec_le n r)
  where
    go : Dec (n ≤ r) → (ltb r n && (ltb r k && b)) ≡ (ltb r n && b)
    go (yes l) = rw (le-ltb r n l)
    go (no l) = rw (lt-ltb r k (omega arith))

-- ---- the number whose n bits are those of a set

unfoldable pub mask : ℕ → Set → ℕ
mask zero w = 0
mask (suc n) w = 2 * mask n (λ r. w (suc r)) + bit (w 0)

pub covers_mask : (n : ℕ) (w : Set) (r : ℕ) → covers (mask n w) r ≡ (ltb r n && w r)
unfolding mask
covers_mask zero w r = rw (covers_of_zero r, leb-suc-zero r)
covers_mask (suc n) w zero = rw (covers-zero, ltb_zero n) (double_odd (mask n (λ r. w (suc r))) (w 0))
covers_mask (suc n) w (suc r) =
    rw (covers-suc, double_half (mask n (λ r. w (suc r))) (w 0), leb-suc-suc (suc r) n) (covers_mask n (λ r. w (suc r)) r)
