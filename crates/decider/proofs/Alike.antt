-- Region counts that are the same up to a number M: sets count the same on them up to M, and a split of one has a like split of the other
-- (003's Lemma 5). Assumes nothing.
use mathlib.Core.Path.{◌≡◌, refl, sym}
use mathlib.Core.Bool.{Bool, true, false}
use mathlib.Core.List.{List, [], ◌∷◌}
use Prim.Native.Nat.{ℕ, zero, suc, ◌+◌, ◌*◌, ◌-◌, ◌<◌, ◌≤◌, min}
use native.Mathlib.Decide.{dec_lt}
use native.Mathlib.Omega.{arith}
use lib.Dec.{T, eqb, ltb, eqb→eq, eqb_refl, ltb→lt, lt→ltb}
use lib.IntN.{ℤ, pos, negsuc}
use lib.Signed.{lt_z}
use Rattle.checker.specs.Meaning.{Set, eq_z}
use Rattle.region.specs.Regions.{Split, over, part}
use Rattle.decider.specs.Threshold.{above}

abbrev pub Alike : ℕ → List ℕ → List ℕ → Type 0
Alike M [] [] = Unit {0}
Alike M [] (d ∷ ds) = ⊥
Alike M (c ∷ cs) [] = ⊥
Alike M (c ∷ cs) (d ∷ ds) = (min c M ≡ min d M) × Alike M cs ds

pub alike_sym : (M : ℕ) (cs ds : List ℕ) → Alike M cs ds → Alike M ds cs
alike_sym M [] [] h = tt
alike_sym M [] (d ∷ ds) h = absurd h
alike_sym M (c ∷ cs) [] h = absurd h
alike_sym M (c ∷ cs) (d ∷ ds) (e, h) = (sym e, alike_sym M cs ds h)

pub alike_over : (M : ℕ) (cs ds : List ℕ) → Alike M cs ds → (w : Set) → min (over w cs) M ≡ min (over w ds) M
unfolding over
alike_over M [] [] h w = refl
alike_over M [] (d ∷ ds) h w = absurd h
alike_over M (c ∷ cs) [] h w = absurd h
alike_over M (c ∷ cs) (d ∷ ds) (e, h) w = go (w zero) (alike_over M cs ds h (λ r. w (suc r)))
  where
    go : (b : Bool) → min (over (λ r. w (suc r)) cs) M ≡ min (over (λ r. w (suc r)) ds) M
        → min (part b c + over (λ r. w (suc r)) cs) M ≡ min (part b d + over (λ r. w (suc r)) ds) M
    go true f = omega arith
    go false f = omega arith

-- For one region: what splits c has a like split of d, if the two are the same up to twice M. Both parts may be exactly M.
halves : (M c d a b : ℕ) → c ≡ a + b → min c (2 * M) ≡ min d (2 * M)
    → (x : ℕ) × (y : ℕ) × (d ≡ x + y) × (min a M ≡ min x M) × (min b M ≡ min y M)
halves M c d a b e h = go (dec_lt a M) (dec_lt b M)
  where
    go : Dec (a < M) → Dec (b < M) → (x : ℕ) × (y : ℕ) × (d ≡ x + y) × (min a M ≡ min x M) × (min b M ≡ min y M)
    go (yes p) (yes q) = (a, b, omega arith, refl, refl)
    go (yes p) (no q) = (a, d - a, omega arith, refl, omega arith)
    go (no p) (yes q) = (d - b, b, omega arith, omega arith, refl)
    go (no p) (no q) = (M, d - M, omega arith, omega arith, omega arith)

pub transfer : (M : ℕ) (cs ds ls : List ℕ) → Alike (2 * M) cs ds → Split cs ls → (ms : List ℕ) × (Split ds ms × Alike M ls ms)
transfer M [] [] [] h s = ([], (tt, tt))
transfer M [] [] (l ∷ ls) h s = absurd s
transfer M [] (d ∷ ds) ls h s = absurd h
transfer M (c ∷ cs) [] ls h s = absurd h
transfer M (c ∷ cs) (d ∷ ds) [] h s = absurd s
transfer M (c ∷ cs) (d ∷ ds) (a ∷ []) h s = absurd s
transfer M (c ∷ cs) (d ∷ ds) (a ∷ b ∷ ls) (e, h) (f, s) =
    let one = halves M c d a b f e in
    let rest = transfer M cs ds ls h s in
    (one.0 ∷ one.1 ∷ rest.0, ((one.2, rest.1.0), (one.3, (one.4, rest.1.1))))

-- ---- a comparison with a constant of at most K sees no difference between numbers that are the same up to K + 1

test_iff : (a b : Bool) → (T a → T b) → (T b → T a) → a ≡ b
test_iff true true f g = refl
test_iff true false f g = absurd (f tt)
test_iff false true f g = absurd (g tt)
test_iff false false f g = refl

eq-eqb : (m n : ℕ) → m ≡ n → T (eqb m n)
eq-eqb m n e = rw e (eqb_refl n)

-- The test gives the same for x and y against a constant c, on either side.
abbrev pub Blunt : (ℤ → ℤ → Bool) → ℕ → ℕ → ℤ → Type 0
Blunt test x y c = (test (pos x) c ≡ test (pos y) c) × (test c (pos x) ≡ test c (pos y))

module _ (K x y : ℕ) (h : min x (suc K) ≡ min y (suc K)) where
  pub eqb_alike : (m : ℕ) → m ≤ K → (eqb x m ≡ eqb y m) × (eqb m x ≡ eqb m y)
  eqb_alike m l = (
    test_iff (eqb x m) (eqb y m) (λ t. eq-eqb y m (omega (arith, eqb→eq x m t))) (λ t. eq-eqb x m (omega (arith, eqb→eq y m t))),
    test_iff (eqb m x) (eqb m y) (λ t. eq-eqb m y (omega (arith, eqb→eq m x t))) (λ t. eq-eqb m x (omega (arith, eqb→eq m y t))),
  )

  ltb_alike : (m : ℕ) → m ≤ K → (ltb x m ≡ ltb y m) × (ltb m x ≡ ltb m y)
  ltb_alike m l = (
    test_iff (ltb x m) (ltb y m) (λ t. lt→ltb y m (omega (arith, ltb→lt x m t))) (λ t. lt→ltb x m (omega (arith, ltb→lt y m t))),
    test_iff (ltb m x) (ltb m y) (λ t. lt→ltb m y (omega (arith, ltb→lt m x t))) (λ t. lt→ltb m x (omega (arith, ltb→lt m y t))),
  )

  pub equal_blunt : (c : ℤ) → above c ≤ K → Blunt eq_z x y c
  equal_blunt (pos m) l = eqb_alike m l
  equal_blunt (negsuc m) l = (refl, refl)

  pub less_blunt : (c : ℤ) → above c ≤ K → Blunt lt_z x y c
  less_blunt (pos m) l = ltb_alike m l
  less_blunt (negsuc m) l = (refl, refl)
