-- The constraint of one set, as a test of counts, says that they are a split.
-- Assumes nothing.
use mathlib.Core.Path.{◌≡◌, refl, sym, ◌∙◌, ap, ap₂}
use mathlib.Core.Bool.{Bool, true, ◌&&◌}
use mathlib.Core.List.{List, [], ◌∷◌}
use Prim.Native.Nat.{ℕ, zero, suc, ◌+◌, ◌*◌, ◌<◌}
use native.Mathlib.Decide.{ℕ_discrete}
use native.Mathlib.Omega.{arith}
use borrow.Author.Tests.{eqb-true, eq-eqb}
use lib.Dec.{eqb}
use lib.ListN.{length, get_or}
use Rattle.checker.specs.Meaning.{Set, every}
use Rattle.std.proofs.lemmas.Bool.{and_parts}
use Rattle.region.proofs.Regions.{twice_suc, twice_suc_one}
use Rattle.region.specs.Regions.{dbl, Split}

-- the two parts of region i, together
abbrev parts : List ℕ → ℕ → ℕ
parts ls i = get_or ls (2 * i) 0 + get_or ls (2 * i + 1) 0

split_at : (cs ls : List ℕ) → Split cs ls → (i : ℕ) → i < length cs → get_or cs i 0 ≡ parts ls i
split_at [] [] s i h = absurd (omega arith)
split_at [] (l ∷ ls) s i h = absurd s
split_at (c ∷ cs) [] s i h = absurd s
split_at (c ∷ cs) (a ∷ []) s i h = absurd s
split_at (c ∷ cs) (a ∷ b ∷ ls) (e, s) zero h = e
split_at (c ∷ cs) (a ∷ b ∷ ls) (e, s) (suc i) h = rw (twice_suc_one i, twice_suc i) (split_at cs ls s i (omega arith))

split_make : (cs ls : List ℕ) → length ls ≡ dbl (length cs) → ((i : ℕ) → i < length cs → get_or cs i 0 ≡ parts ls i) → Split cs ls
split_make [] [] l h = tt
split_make [] (a ∷ ls) l h = absurd (omega arith)
split_make (c ∷ cs) [] l h = absurd (omega arith)
split_make (c ∷ cs) (a ∷ []) l h = absurd (omega arith)
split_make (c ∷ cs) (a ∷ b ∷ ls) l h =
    (h 0 (omega arith), split_make cs ls (omega arith) (λ i k. rw (twice_suc_one i, twice_suc i) at (h (suc i) (omega arith))))

-- ---- the test

every_make : (n : ℕ) (s : Set) → ((i : ℕ) → i < n → s i ≡ true) → every n s ≡ true
unfolding every
every_make zero s h = refl
every_make (suc n) s h = ap₂ ◌&&◌ (every_make n s (λ i l. h i (omega arith))) (h n (omega arith))

every_at : (n : ℕ) (s : Set) → every n s ≡ true → (i : ℕ) → i < n → s i ≡ true
unfolding every
every_at zero s e i h = absurd (omega arith)
every_at (suc n) s e i h = let (first, last) = and_parts (every n s) (s n) e in go last (λ l. every_at n s first i l) (ℕ_discrete i n)
  where
    go : s n ≡ true → (i < n → s i ≡ true) → Dec (i ≡ n) → s i ≡ true
    go last earlier (yes d) = ap s d ∙ last
    go last earlier (no d) = earlier (omega arith)

pub every_same : (n : ℕ) (s t : Set) → ((i : ℕ) → i < n → s i ≡ t i) → every n s ≡ every n t
unfolding every
every_same zero s t h = refl
every_same (suc n) s t h = ap₂ ◌&&◌ (every_same n s t (λ i l. h i (omega arith))) (h n (omega arith))

-- region i of `cs` is the sum of its parts in `ls`, and all n regions are
unfoldable pub sums : List ℕ → List ℕ → ℕ → Bool
sums cs ls i = eqb (get_or cs i 0) (parts ls i)

unfoldable pub splits : ℕ → List ℕ → List ℕ → Bool
splits n cs ls = every n (sums cs ls)

pub splits_make : (n : ℕ) (cs ls : List ℕ) → length cs ≡ n → Split cs ls → splits n cs ls ≡ true
unfolding splits sums
splits_make n cs ls l s = every_make n (sums cs ls) (λ i h. eq-eqb _ _ (split_at cs ls s i (omega arith)))

pub splits_true : (n : ℕ) (cs ls : List ℕ) → length cs ≡ n → length ls ≡ dbl n → splits n cs ls ≡ true → Split cs ls
unfolding splits sums
splits_true n cs ls l k e =
    split_make cs ls (k ∙ ap dbl (sym l)) (λ i h. eqb-true _ _ (every_at n (sums cs ls) e i (omega arith)))
