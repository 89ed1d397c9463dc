-- Laws of decimal digits: the last digit and those before it, and how many there are.
-- Assumes nothing.
use mathlib.Core.Path.{◌≡◌, refl}
use mathlib.Core.List.{[], ◌∷◌, ◌++◌}
use Prim.Native.Nat.{ℕ, zero, suc, ◌+◌, ◌*◌, ◌%◌, ◌/◌, ◌<◌, ◌≤◌, ◌^◌}
use native.Mathlib.Nat.{pow-succ', lt_trans}
use native.Mathlib.Decide.{dec_lt}
use native.Mathlib.Omega.{arith}
use borrow.Author.Tests.{lt-ltb, le-ltb}
use lib.Dec.{lit<}
use lib.ListN.{length, length-append}
use Rattle.decimal.specs.Printing.{decimal_of, decimal}

-- more digits than are needed change nothing
more_digits : (f g n : ℕ) → n ≤ f → n ≤ g → decimal_of f n ≡ decimal_of g n
unfolding decimal_of
more_digits zero zero n h k = refl
more_digits zero (suc g) n h k = let e : n ≡ 0 = omega arith in rw e
more_digits (suc f) zero n h k = let e : n ≡ 0 = omega arith in rw e
more_digits (suc f) (suc g) n h k = rw (more_digits f g (n / 10) (omega arith) (omega arith))

pub decimal_small : (n : ℕ) → n < 10 → decimal n ≡ (48 + n) ∷ []
unfolding decimal decimal_of
decimal_small zero h = refl
decimal_small (suc n) h = rw (lt-ltb (suc n) 10 h)

pub decimal_step : (n : ℕ) → 10 ≤ n → decimal n ≡ decimal (n / 10) ++ (48 + n % 10) ∷ []
unfolding decimal decimal_of
decimal_step zero h = absurd (omega arith)
decimal_step (suc n) h = rw (le-ltb (suc n) 10 h, more_digits n (suc n / 10) (suc n / 10) (omega arith) (omega arith))

-- a number below 10 ^ k has at most k digits, for k of at least 1
pub decimal-length : (k n : ℕ) → n < 10 ^ suc k → length (decimal n) ≤ suc k
decimal-length zero n h = rw (decimal_small n h) (omega arith)
decimal-length (suc k) n h = go (dec_lt n 10) (decimal-length k (n / 10))
  where
    go : Dec (n < 10) → (n / 10 < 10 ^ suc k → length (decimal (n / 10)) ≤ suc k) → length (decimal n) ≤ suc (suc k)
    go (yes g) f = rw (decimal_small n g) (omega arith)
    go (no g) f =
        let e : n < 10 * 10 ^ suc k = rw (pow-succ' 10 (suc k)) at h in
        rw (decimal_step n (omega arith), length-append) (omega (arith, f (omega arith)))

-- a 64-bit number has at most twenty digits
pub decimal_short : (n : ℕ) → n < 2 ^ 64 → length (decimal n) ≤ 20
decimal_short n h = decimal-length 19 n (lt_trans h (lit< tt))
