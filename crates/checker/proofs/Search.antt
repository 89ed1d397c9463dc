-- Laws of the first index that passes a test and of counting: for the loops that search and count, and for those who use the answer. Assumes nothing.
use mathlib.Core.Path.{◌≡◌, refl, sym, ◌∙◌, ap}
use mathlib.Core.Bool.{Bool, true, false, cond}
use Prim.Native.Nat.{ℕ, zero, suc, ◌+◌, ◌-◌, ◌≤◌, ◌<◌}
use native.Mathlib.Nat.{zero-add, add-suc}
use native.Mathlib.Numerals.{add-one}
use native.Mathlib.Omega.{arith}
use lib.Dec.{ltb}
use Rattle.std.specs.Prelude.{Some, None}
use Rattle.std.specs.List.{find, range_with_len}
use Rattle.std.proofs.lemmas.Bool.Decides.{nat_tests}
use Rattle.checker.specs.Search.{first_from, first, found, count}

-- `first_from`, one index on, where k more are left
hit : (p : ℕ → Bool) (i k : ℕ) → p i ≡ true → first_from p i (suc k) ≡ i
unfolding first_from
hit p i k e = rw e

miss : (p : ℕ → Bool) (i k : ℕ) → p i ≡ false → first_from p i (suc k) ≡ first_from p (suc i) k
unfolding first_from
miss p i k e = rw e

none_left : (p : ℕ → Bool) (i : ℕ) → first_from p i 0 ≡ i
unfolding first_from
none_left p i = refl

-- The invariant of a loop that has found nothing below i: what is left decides.
pub record Upto (p : ℕ → Bool) (n i : ℕ) : Type 0 where
  pub low : i ≤ n
  pub same : first p n ≡ first_from p i (n - i)

module _ (p : ℕ → Bool) (n : ℕ) where
  pub upto_none : Upto p n 0
  unfolding first
  upto_none = record { low = omega arith; same = ap (first_from p 0) (omega arith) }

  module _ (i : ℕ) (u : Upto p n i) where
    left : i < n → n - i ≡ suc (n - (i + 1))
    left h = omega arith

    pub upto_more : i < n → p i ≡ false → Upto p n (i + 1)
    upto_more h e = record {
      low = omega arith;
      same = u.same ∙ ap (first_from p i) (left h) ∙ miss p i (n - (i + 1)) e ∙ ap (λ (m : ℕ). first_from p m (n - (i + 1))) (sym (add-one i));
    }

    pub upto_hit : i < n → p i ≡ true → i ≡ first p n
    upto_hit h e = sym (u.same ∙ ap (first_from p i) (left h) ∙ hit p i (n - (i + 1)) e)

    pub upto_all : n ≤ i → i ≡ n
    upto_all h = omega (arith, u.low)

    pub upto_end : n ≤ i → i ≡ first p n
    upto_end h = sym (u.same ∙ ap (first_from p i) (omega arith) ∙ none_left p i)

pub count_none : (p : ℕ → Bool) → count p 0 ≡ 0
unfolding count
count_none p = refl

-- counting one index on
pub count_yes : (p : ℕ → Bool) (i : ℕ) → p i ≡ true → count p i + 1 ≡ count p (i + 1)
unfolding count
count_yes p i e = rw (add-one i, e) refl

pub count_no : (p : ℕ → Bool) (i : ℕ) → p i ≡ false → count p i ≡ count p (i + 1)
unfolding count
count_no p i e = rw (add-one i, e) (omega arith)

pub count_le : (p : ℕ → Bool) (n : ℕ) → count p n ≤ n
unfolding count
count_le p zero = omega arith
count_le p (suc n) = grind (arith, nat_tests, count_le p n)

-- What the first index is.
from_le : (p : ℕ → Bool) (i k : ℕ) → first_from p i k ≤ i + k
unfolding first_from
from_le p i zero = omega arith
from_le p i (suc k) = grind (arith, nat_tests, from_le p (suc i) k)

from_miss : (p : ℕ → Bool) (i k j : ℕ) → i ≤ j → j < first_from p i k → p j ≡ false
unfolding first_from
from_miss p i zero j h l = absurd (omega arith)
from_miss p i (suc k) j h l = grind (arith, nat_tests, from_miss p (suc i) k j)

from_hit : (p : ℕ → Bool) (i k : ℕ) → first_from p i k < i + k → p (first_from p i k) ≡ true
unfolding first_from
from_hit p i zero h = absurd (omega arith)
from_hit p i (suc k) h = go (p i) refl h (λ g. from_hit p (suc i) k g)
  where
    go : (b : Bool) → p i ≡ b → cond b i (first_from p (suc i) k) < i + suc k
        → (first_from p (suc i) k < suc i + k → p (first_from p (suc i) k) ≡ true) → p (cond b i (first_from p (suc i) k)) ≡ true
    go true e m r = e
    go false e m r = r (omega arith)

module _ (p : ℕ → Bool) (n : ℕ) where
  pub first_le : first p n ≤ n
  unfolding first
  first_le = omega (arith, from_le p 0 n)

  pub first_miss : (j : ℕ) → j < first p n → p j ≡ false
  unfolding first
  first_miss j h = from_miss p 0 n j (omega arith) h

  pub first_hit : first p n < n → p (first p n) ≡ true
  unfolding first
  first_hit h = from_hit p 0 n (omega arith)

  -- none passes
  pub first_none : n ≤ first p n → (j : ℕ) → j < n → p j ≡ false
  first_none h j l = first_miss j (omega arith)

-- the first as an option
found_from : (p : ℕ → Bool) (i k : ℕ) → find p (range_with_len i k) ≡ cond (ltb (first_from p i k) (i + k)) (Some (first_from p i k)) None
unfolding first_from
found_from p i zero = grind (arith, nat_tests)
found_from p i (suc k) = grind (arith, nat_tests, found_from p (suc i) k)

module _ (p : ℕ → Bool) (n : ℕ) where
  found_first : found p n ≡ cond (ltb (first p n) n) (Some (first p n)) None
  unfolding first
  found_first = rw zero-add at (found_from p 0 n)

  pub found_some : {i : ℕ} → Some i ≡ found p n → (i ≡ first p n) × (i < n)
  found_some e = grind (arith, nat_tests, found_first)

  pub found_none : None ≡ found p n → n ≤ first p n
  found_none e = grind (arith, nat_tests, found_first)

-- where none passes, the first is n
from_all : (p : ℕ → Bool) (i k : ℕ) → ((j : ℕ) → i ≤ j → j < i + k → p j ≡ false) → first_from p i k ≡ i + k
unfolding first_from
from_all p i zero h = omega arith
from_all p i (suc k) h =
    let r : first_from p (suc i) k ≡ suc i + k = from_all p (suc i) k (λ j l m. h j (omega arith) (omega arith)) in
    rw (h i (omega arith) (omega arith)) (omega arith)

pub first_all : (p : ℕ → Bool) (n : ℕ) → ((j : ℕ) → j < n → p j ≡ false) → n ≤ first p n
unfolding first
first_all p n h = omega (arith, from_all p 0 n (λ j l m. h j (omega arith)))

-- counting never falls
count_more : (p : ℕ → Bool) (i k : ℕ) → count p i ≤ count p (i + k)
unfolding count
count_more p i zero = grind arith
count_more p i (suc k) = rw (add-suc i k) (grind (arith, nat_tests, count_more p i k))

pub count_mono : (p : ℕ → Bool) (i n : ℕ) → i ≤ n → count p i ≤ count p n
count_mono p i n h = let e : i + (n - i) ≡ n = omega arith in rw e at (count_more p i (n - i))

-- for loops that search and count
pub ruleset searches = (nat_tests, upto_none, upto_more, upto_hit, upto_all, upto_end, count_none, count_yes, count_no, count_le)
