-- The lowest bit that is set: where trailing zeros find it, what is left without it, and that the walk from one to the next meets every region
-- that is covered. For any number of bits. Assumes nothing.
use mathlib.Core.Path.{◌≡◌, refl, sym, ◌∙◌, ap}
use mathlib.Core.Bool.{true, false, not, cond, ◌&&◌, and-true, and_self, true≢false}
use mathlib.Core.List.{List, ◌∷◌}
use Prim.Native.Nat.{ℕ, zero, suc, ◌+◌, ◌-◌, ◌/◌, ◌%◌, ◌^◌, ◌≤◌, ◌<◌}
use native.Mathlib.Decide.{dec_le}
use native.Mathlib.Nat.{zero-add, mod-lt, zero-lt-suc, pow-suc}
use native.Mathlib.Numerals.{one-add}
use native.Mathlib.Omega.{arith}
use borrow.Author.Tests.{eqb-true, eqb-false}
use lib.Arith.{lt-one}
use lib.Bits.{bit_and}
use lib.Count.{ones, ones_step, count_trailing_zeros, under}
use lib.Dec.{eqb, eqb-suc-zero, eqb-suc-suc}
use lib.ListN.{length, get_or, length-map}
use Rattle.region.specs.Regions.{covered, over}
use Rattle.region.specs.Pattern.{covers}
use Rattle.region.proofs.Bits.{covers-zero, covers-suc, covers_of_zero, covers-and}
use Rattle.region.proofs.Covered.{covered_same, covered_shift, over_same, over_none, over_without}

-- ---- how many bits are set

pub covered_ones : (k p : ℕ) → p < 2 ^ k → length (covered 0 k (covers p)) ≡ ones p
unfolding covered ones
covered_ones zero p h = rw (lt-one h)
covered_ones (suc k) p h =
    go (p % 2) (covered 1 k (covers p)) (mod-lt p (zero-lt-suc 1)) (covers-zero p)
    ∙ ap (λ (n : ℕ). p % 2 + n) (rest ∙ covered_ones k (p / 2) (omega (arith, pow-suc 2 k))) ∙ sym (ones_step p)
  where
    go : (d : ℕ) (l : List ℕ) → d < 2 → covers p 0 ≡ eqb d 1 → length (cond (covers p 0) (0 ∷ l) l) ≡ d + length l
    go zero l h e = rw (e, zero-add)
    go (suc zero) l h e = rw (e, one-add)
    go (suc (suc d)) l h e = absurd (omega arith)

    rest : length (covered 1 k (covers p)) ≡ length (covered 0 k (covers (p / 2)))
    rest =
        ap length (covered_shift k 1 0 (covers p)) ∙ length-map (covered 0 k (λ r. covers p (1 + r))) (λ r. 1 + r)
        ∙ ap length (covered_same k 0 (λ r. covers p (1 + r)) (covers (p / 2)) (λ r _ _. rw (one-add) (covers-suc p r)))

-- ---- the lowest bit

-- t is the place of the lowest bit of p that is set, and below k
pub record Lowest (k p t : ℕ) : Type 0 where
  pub below : t < k
  pub set : covers p t ≡ true
  pub under : (r : ℕ) → r < t → covers p r ≡ false

trailing_step : (k p d : ℕ) → p % 2 ≡ d → d < 2 → 0 < p → (0 < p / 2 → Lowest k (p / 2) (count_trailing_zeros k (p / 2)))
    → Lowest (suc k) p (under d (count_trailing_zeros k (p / 2)))
trailing_step k p zero e h pos ih =
    let l : Lowest k (p / 2) (count_trailing_zeros k (p / 2)) = ih (omega arith) in
    record { below = omega arith; set = covers-suc p _ ∙ l.set; under = go l.under }
  where
    go : ((r : ℕ) → r < count_trailing_zeros k (p / 2) → covers (p / 2) r ≡ false) → (r : ℕ) → r < suc (count_trailing_zeros k (p / 2)) → covers p r ≡ false
    go f zero a = rw (covers-zero, e)
    go f (suc r) a = covers-suc p r ∙ f r (omega arith)
trailing_step k p (suc zero) e h pos ih =
    record { below = omega arith; set = rw (covers-zero, e); under = λ r a. absurd (omega arith) }
trailing_step k p (suc (suc d)) e h pos ih = absurd (omega arith)

pub trailing_lowest : (k p : ℕ) → 0 < p → p < 2 ^ k → Lowest k p (count_trailing_zeros k p)
unfolding count_trailing_zeros
trailing_lowest zero p pos h = absurd (omega arith)
trailing_lowest (suc k) p pos h =
    trailing_step k p (p % 2) refl (mod-lt p (zero-lt-suc 1)) pos (λ a. trailing_lowest k (p / 2) a (omega (arith, pow-suc 2 k)))

-- ---- without the lowest bit: p & (p - 1)

-- one less: the lowest bit falls, and those above it stay
less_one : (t p r : ℕ) → covers p t ≡ true → ((r : ℕ) → r < t → covers p r ≡ false)
    → (covers p r && covers (p - 1) r) ≡ (covers p r && not (eqb r t))
less_one zero p zero e under =
    let low : p % 2 ≡ 1 = eqb-true (p % 2) 1 (sym (covers-zero p) ∙ e) in
    let even : (p - 1) % 2 ≡ 0 = omega arith in
    rw (covers-zero (p - 1), even)
less_one zero p (suc r) e under =
    let low : p % 2 ≡ 1 = eqb-true (p % 2) 1 (sym (covers-zero p) ∙ e) in
    let halves : (p - 1) / 2 ≡ p / 2 = omega arith in
    rw (covers-suc p r, covers-suc (p - 1) r, halves, eqb-suc-zero r) (and_self (covers (p / 2) r) ∙ sym (and-true (covers (p / 2) r)))
less_one (suc t) p zero e under = rw (under 0 (omega arith))
less_one (suc t) p (suc r) e under =
    let low : p % 2 ≡ 1 → ⊥ = eqb-false (p % 2) 1 (sym (covers-zero p) ∙ under 0 (omega arith)) in
    let halves : (p - 1) / 2 ≡ p / 2 - 1 = omega arith in
    rw (covers-suc p r, covers-suc (p - 1) r, halves, eqb-suc-suc r t)
    (less_one t (p / 2) r (sym (covers-suc p t) ∙ e) (λ j l. sym (covers-suc p j) ∙ under (suc j) (omega arith)))

lowest_cleared : (k p t : ℕ) → Lowest k p t → (r : ℕ) → covers (bit_and p (p - 1)) r ≡ (covers p r && not (eqb r t))
lowest_cleared k p t low r = covers-and p (p - 1) r ∙ less_one t p r low.set low.under

-- ---- the ports of a pattern, one covered region after the other

pub over_no_bits : (cs : List ℕ) → over (covers 0) cs ≡ 0
over_no_bits cs = over_none cs (covers 0) (λ r _. covers_of_zero r)

-- regions below n alone are covered, and so the lowest of them is one
pub lowest_within : (k p n : ℕ) → 0 < p → p < 2 ^ k → ((r : ℕ) → n ≤ r → covers p r ≡ false) → count_trailing_zeros k p < n
lowest_within k p n pos h past = go (dec_le n (count_trailing_zeros k p))
  where
    go : Dec (n ≤ count_trailing_zeros k p) → count_trailing_zeros k p < n
    go (yes l) = absurd (true≢false (sym (trailing_lowest k p pos h).set ∙ past (count_trailing_zeros k p) l))
    go (no l) = omega arith

pub still_uncovered : (p q r : ℕ) → covers p r ≡ false → covers (bit_and p q) r ≡ false
still_uncovered p q r e = rw (covers-and p q r, e)

module _ (k p : ℕ) (cs : List ℕ) (pos : 0 < p) (h : p < 2 ^ k) where
  -- the region of the lowest bit, and those above it
  pub over_lowest : count_trailing_zeros k p < length cs
      → over (covers p) cs ≡ get_or cs (count_trailing_zeros k p) 0 + over (covers (bit_and p (p - 1))) cs
  over_lowest l =
      let low : Lowest k p (count_trailing_zeros k p) = trailing_lowest k p pos h in
      over_without cs (covers p) (count_trailing_zeros k p) l low.set
      ∙ ap (λ (n : ℕ). get_or cs (count_trailing_zeros k p) 0 + n)
      (over_same cs _ (covers (bit_and p (p - 1))) (λ r _. sym (lowest_cleared k p (count_trailing_zeros k p) low r)))
