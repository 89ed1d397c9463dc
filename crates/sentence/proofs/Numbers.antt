-- A number in decimal digits is read back. Assumes nothing.
use mathlib.Core.Path.{◌≡◌, refl, sym, ap, ◌∙◌}
use mathlib.Core.Bool.{true, false, true≢false}
use mathlib.Core.List.{List, [], ◌∷◌, ◌++◌, append_assoc}
use Prim.Native.Nat.{ℕ, zero, suc, ◌+◌, ◌*◌, ◌-◌, ◌%◌, ◌/◌, ◌<◌, ◌≤◌}
use native.Mathlib.Decide.{dec_lt}
use native.Mathlib.Omega.{arith}
use borrow.Author.Tests.{le-leb, ne_eqb}
use lib.Dec.{eqb}
use lib.ListN.{get_or}
use Rattle.decimal.specs.Reading.{digit}
use Rattle.decimal.specs.Printing.{decimal}
use Rattle.decimal.proofs.Decimals.{decimal_small, decimal_step}
use Rattle.sentence.specs.Scan.{found, grown, number_from}

-- a number ends here
abbrev pub Stops : List ℕ → Type 0
Stops bs = digit (get_or bs 0 0) ≡ false

-- What holds of one digit, and of a longer number where it holds of all its digits but the last, holds of every number.
by_digits : (P : ℕ → List ℕ → Type 0) → ((n : ℕ) → n < 10 → P n ((48 + n) ∷ [])) → ((n : ℕ) (ds : List ℕ) → P (n / 10) ds → P n (ds ++ (48 + n % 10) ∷ []))
    → (f n : ℕ) → n ≤ f → P n (decimal n)
by_digits P one more zero n h = let l : n < 10 = omega arith in rw (decimal_small n l) (one n l)
by_digits P one more (suc f) n h = go (dec_lt n 10) (λ l. by_digits P one more f (n / 10) (omega arith))
  where
    go : Dec (n < 10) → (10 ≤ n → P (n / 10) (decimal (n / 10))) → P n (decimal n)
    go (yes l) ih = rw (decimal_small n l) (one n l)
    go (no l) ih = let g : 10 ≤ n = omega arith in rw (decimal_step n g) (more n (decimal (n / 10)) (ih g))

decimal_by_digits : (P : ℕ → List ℕ → Type 0) → ((n : ℕ) → n < 10 → P n ((48 + n) ∷ [])) → ((n : ℕ) (ds : List ℕ) → P (n / 10) ds → P n (ds ++ (48 + n % 10) ∷ []))
    → (n : ℕ) → P n (decimal n)
decimal_by_digits P one more n = by_digits P one more n n (omega arith)

is_digit : (d : ℕ) → d < 10 → digit (48 + d) ≡ true
is_digit d h = rw (le-leb 48 (48 + d) (omega arith), le-leb (48 + d) 57 (omega arith))

-- ---- the first byte is a digit

starts : (n : ℕ) (bs : List ℕ) → digit (get_or (decimal n ++ bs) 0 0) ≡ true
starts = decimal_by_digits (λ n ds. (bs : List ℕ) → digit (get_or (ds ++ bs) 0 0) ≡ true) (λ n l bs. is_digit n l) (λ n ds h bs. rw (append_assoc ds) (h ((48 + n % 10) ∷ bs)))

pub starts_other : (x : ℕ) → digit x ≡ false → (n : ℕ) (bs : List ℕ) → eqb (get_or (decimal n ++ bs) 0 0) x ≡ false
starts_other x h n bs = ne_eqb _ x (λ e. true≢false (sym (starts n bs) ∙ ap digit e ∙ h))

module _ (most : ℕ) where
  digit_read : (n d : ℕ) (bs : List ℕ) → d < 10 → number_from most n ((48 + d) ∷ bs) ≡ number_from most (grown most n d) bs
  unfolding number_from
  digit_read n d bs h =
      let e : 48 + d - 48 ≡ d = omega arith in
      rw (is_digit d h, e)

  stop : (n : ℕ) (bs : List ℕ) → Stops bs → number_from most n bs ≡ found n bs
  unfolding number_from
  stop n [] h = refl
  stop n (b ∷ bs) h = rw h

  -- ---- what follows a number, whatever it is

  skipped : (n : ℕ) (bs r : List ℕ) → ((k : ℕ) → (number_from most k bs).rest ≡ r) → (k : ℕ) → (number_from most k (decimal n ++ bs)).rest ≡ r
  skipped =
      decimal_by_digits (λ n ds. (bs r : List ℕ) → ((k : ℕ) → (number_from most k bs).rest ≡ r) → (k : ℕ) → (number_from most k (ds ++ bs)).rest ≡ r)
      (λ n l bs r h k. rw (digit_read k n bs l) (h (grown most k n)))
      (λ n ds ih bs r h k. rw (append_assoc ds) (ih ((48 + n % 10) ∷ bs) r (λ j. rw (digit_read j (n % 10) bs (omega arith)) (h (grown most j (n % 10)))) k))

  pub number_rest : (n : ℕ) (bs : List ℕ) → Stops bs → (number_from most 0 (decimal n ++ bs)).rest ≡ bs
  number_rest n bs h = skipped n bs bs (λ k. rw (stop k bs h)) 0

  -- ---- a number within the limit

  grown_small : (n d : ℕ) → n ≤ most → grown most n d ≡ 10 * n + d
  grown_small n d h = rw (le-leb n most h)

  read_on : (n : ℕ) → n ≤ most → (bs : List ℕ) → number_from most 0 (decimal n ++ bs) ≡ number_from most n bs
  read_on =
      decimal_by_digits (λ n ds. n ≤ most → (bs : List ℕ) → number_from most 0 (ds ++ bs) ≡ number_from most n bs)
      (λ n l h bs.
      let e : 10 * 0 + n ≡ n = omega arith in
      rw (digit_read 0 n bs l, grown_small 0 n (omega arith), e))
      (λ n ds ih h bs.
      let e : 10 * (n / 10) + n % 10 ≡ n = omega arith in
      rw (append_assoc ds, ih (omega arith) ((48 + n % 10) ∷ bs), digit_read (n / 10) (n % 10) bs (omega arith), grown_small (n / 10) (n % 10) (omega arith), e))

  pub number_read : (n : ℕ) (bs : List ℕ) → n ≤ most → Stops bs → number_from most 0 (decimal n ++ bs) ≡ found n bs
  number_read n bs l h = read_on n l bs ∙ stop n bs h
