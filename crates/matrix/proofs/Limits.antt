-- The bounds as the search for the first one over the limit works them out: no number overflows before it stops. Assumes nothing.
use mathlib.Core.Path.{◌≡◌, sym, ap, ap₂, ◌∙◌}
use mathlib.Core.Bool.{true, false}
use mathlib.Core.List.{List, [], ◌∷◌, ◌++◌}
use Prim.Native.Nat.{ℕ, zero, suc, ◌+◌, ◌≤◌, ◌<◌, zero-le}
use native.Mathlib.Numerals.{add-one}
use native.Mathlib.Omega.{arith}
use borrow.Author.Tests.{lt-ltb, le-ltb}
use lib.ListN.{length, get_or, take, set}
use lib.Seq.{take-suc, take-suc-set}
use Rattle.checker.specs.Claim.{unknown, Claim}
use Rattle.matrix.specs.Bound.{max_bound, bound_of, bounds, over_bound}
use Rattle.matrix.proofs.Build.{build_at, build_length, bounds_build}

-- ---- one node further

module _ (N : ℕ) (c : Claim) (bs : List ℕ) (i : ℕ) (h : i < length c.nodes) (e : take i bs ≡ take i (bounds N c.nodes)) where
  pub bound_is : get_or (bounds N c.nodes) i 0 ≡ bound_of N (take i bs) (get_or c.nodes i unknown)
  bound_is =
      rw (e, bounds_build N [] c.nodes) (build_at (bound_of N) c.nodes i 0 h)

  module _ (b : ℕ) (is : b ≡ bound_of N (take i bs) (get_or c.nodes i unknown)) where
    pub is_over : max_bound < b → over_bound N c i ≡ true
    unfolding over_bound
    is_over l = lt-ltb max_bound (get_or (bounds N c.nodes) i 0) (omega (arith, bound_is))

    pub not_over : b ≤ max_bound → over_bound N c i ≡ false
    unfolding over_bound
    not_over l = le-ltb max_bound (get_or (bounds N c.nodes) i 0) (omega (arith, bound_is))

    pub bounds_next : i < length bs → take (i + 1) (set bs i b) ≡ take (i + 1) (bounds N c.nodes)
    bounds_next l =
        let long : i < length (bounds N c.nodes) = omega (arith, ap length (bounds_build N [] c.nodes), build_length (bound_of N) [] c.nodes) in
        rw (add-one i)
        (take-suc-set bs i b l ∙ ap₂ (λ (l : List ℕ) (x : ℕ). l ++ x ∷ []) e (is ∙ sym bound_is) ∙ sym (take-suc (bounds N c.nodes) i 0 long))

    pub small_next : i < length bs → b ≤ max_bound → ((j : ℕ) → get_or (take i bs) j 0 ≤ max_bound) → (j : ℕ) → get_or (take (i + 1) (set bs i b)) j 0 ≤ max_bound
    small_next l k f j = rw (add-one i, take-suc-set bs i b l) (snoc_small (take i bs) f j)
      where
        snoc_small : (xs : List ℕ) → ((j : ℕ) → get_or xs j 0 ≤ max_bound) → (j : ℕ) → get_or (xs ++ b ∷ []) j 0 ≤ max_bound
        snoc_small [] f zero = k
        snoc_small [] f (suc j) = zero-le
        snoc_small (x ∷ xs) f zero = f zero
        snoc_small (x ∷ xs) f (suc j) = snoc_small xs (λ m. f (suc m)) j
