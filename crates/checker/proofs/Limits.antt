-- Laws of the dialects: what every one keeps below, and the kinds of a list, one by one. Assumes nothing.
use mathlib.Core.Path.{◌≡◌}
use mathlib.Core.Bool.{Bool, true}
use mathlib.Core.List.{List, [], ◌∷◌}
use Prim.Native.Nat.{ℕ, zero, suc, ◌≤◌, ◌<◌}
use native.Mathlib.Omega.{arith}
use lib.ListN.{length, get_or}
use Rattle.checker.specs.declared.Dialect.{Dialect}
use Rattle.checker.specs.declared.Dialect.TheVariants.{SetClaims, Emitted}
use Rattle.checker.specs.Words.{tab}
use Rattle.checker.specs.Dialect.{most_nodes, most_quantifiers}
use Rattle.checker.specs.Accepted.{All}

-- ---- the emitted dialect is the largest

pub nodes_most : (d : Dialect) → most_nodes d ≤ most_nodes Emitted
nodes_most SetClaims = omega arith
nodes_most Emitted = omega arith

pub quantifiers_most : (d : Dialect) → most_quantifiers d ≤ most_quantifiers Emitted
quantifiers_most SetClaims = omega arith
quantifiers_most Emitted = omega arith

-- ---- a test that all of a list pass

module _ {A : Type 0} (p : A → Bool) where
  pub all_of : ((x : A) → p x ≡ true) → (xs : List A) → All p xs
  all_of h [] = tt
  all_of h (x ∷ xs) = (h x, all_of h xs)

  pub all_at : (xs : List A) → All p xs → (d : A) (i : ℕ) → i < length xs → p (get_or xs i d) ≡ true
  all_at [] a d i h = absurd (omega arith)
  all_at (x ∷ xs) (e, es) d zero h = e
  all_at (x ∷ xs) (e, es) d (suc i) h = all_at xs es d i (omega arith)

  pub all_tab : (n : ℕ) (f : ℕ → A) → ((i : ℕ) → i < n → p (f i) ≡ true) → All p (tab n f)
  all_tab zero f h = tt
  all_tab (suc n) f h = (h 0 (omega arith), all_tab n (λ i. f (suc i)) (λ i l. h (suc i) (omega arith)))
