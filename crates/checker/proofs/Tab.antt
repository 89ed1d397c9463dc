-- Lists given by their elements. Assumes nothing.
use mathlib.Core.Path.{◌≡◌, refl, ap}
use mathlib.Core.List.{[], ◌∷◌, ◌++◌}
use Prim.Native.Nat.{ℕ, zero, suc, ◌<◌}
use native.Mathlib.Omega.{arith}
use lib.ListN.{length, get_or}
use Rattle.checker.specs.Words.{tab}

module _ {A : Type 0} where
  pub tab-length : (n : ℕ) (f : ℕ → A) → length (tab n f) ≡ n
  tab-length zero f = refl
  tab-length (suc n) f = ap suc (tab-length n (λ i. f (suc i)))

  pub tab_at : (n : ℕ) (f : ℕ → A) (d : A) (i : ℕ) → i < n → get_or (tab n f) i d ≡ f i
  tab_at zero f d i h = absurd (omega arith)
  tab_at (suc n) f d zero h = refl
  tab_at (suc n) f d (suc i) h = tab_at n (λ j. f (suc j)) d i (omega arith)

  pub tab-snoc : (n : ℕ) (f : ℕ → A) → tab (suc n) f ≡ tab n f ++ f n ∷ []
  tab-snoc zero f = refl
  tab-snoc (suc n) f = ap (λ l. f 0 ∷ l) (tab-snoc n (λ j. f (suc j)))
