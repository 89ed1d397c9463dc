-- Lists with more elements at the end.
-- Assumes nothing.
use mathlib.Core.Path.{◌≡◌, sym, subst}
use mathlib.Core.List.{List, [], ◌∷◌, ◌++◌}
use Prim.Native.Nat.{ℕ, ◌<◌}
use native.Mathlib.Decide.{ℕ_discrete}
use native.Mathlib.Omega.{arith}
use lib.ListN.{length, get_or, length-append, get_or-append}
use lib.Seq.{get_or_at}

module _ {A : Type 0} where
  pub new_at : (xs : List A) (x d : A) (i : ℕ) → i ≡ length xs → get_or (xs ++ x ∷ []) i d ≡ x
  new_at xs x d i e = get_or_at xs x [] d i (sym e)

  pub old_at : (xs ys : List A) (d : A) (i : ℕ) → i < length xs → get_or (xs ++ ys) i d ≡ get_or xs i d
  old_at xs ys d i h = get_or-append xs ys d i h

  -- what holds of each of xs, and of x after them, holds of each
  pub at_each : (P : ℕ → A → Type 0) (xs : List A) (x d : A) → ((i : ℕ) → i < length xs → P i (get_or xs i d)) → P (length xs) x
      → (i : ℕ) → i < length (xs ++ x ∷ []) → P i (get_or (xs ++ x ∷ []) i d)
  at_each P xs x d each new i h = go (ℕ_discrete i (length xs))
    where
      go : Dec (i ≡ length xs) → P i (get_or (xs ++ x ∷ []) i d)
      go (yes e) = subst (P i) (sym (new_at xs x d i e)) (subst (λ j. P j x) (sym e) new)
      go (no e) =
          let l : i < length xs = omega (arith, length-append xs (x ∷ [])) in
          subst (P i) (sym (old_at xs (x ∷ []) d i l)) (each i l)
