-- What a run of tries finds, and that it takes a step. Assumes nothing.
use mathlib.Core.Path.{◌≡◌, refl, subst}
use mathlib.Core.Logic.{◌↔◌, ◌⊎◌, inl, inr, ⊎_elim}
use mathlib.Core.Bool.{Bool, true, false, cond, false≢true}
use Prim.Native.Nat.{ℕ, zero, suc, ◌+◌, ◌≤◌, ◌<◌}
use native.Mathlib.Decide.{dec_lt}
use native.Mathlib.Omega.{arith}
use Rattle.checker.specs.Meaning.{Quantified}
use Rattle.decider.specs.Rule.{Ruling, stops, after, joined, tries}

abbrev pub Yes : Ruling → Type 0
Yes r = r.truth ≡ true

one_some : (b : Bool) (s : ℕ) (rest : Ruling) → Yes (joined true (record { truth = b; steps = s }) rest) ↔ ((b ≡ true) ⊎ Yes rest)
unfolding joined
one_some true s rest = (λ t. inl t, λ t. refl)
one_some false s rest = (λ t. inr t, ⊎_elim (λ e. absurd (false≢true e)) (λ t. t))

one_all : (b : Bool) (s : ℕ) (rest : Ruling) → Yes (joined false (record { truth = b; steps = s }) rest) ↔ ((b ≡ true) × Yes rest)
unfolding joined
one_all true s rest = (λ t. (refl, t), λ t. t.1)
one_all false s rest = (λ e. absurd (false≢true e), λ t. t.0)

-- the numbers that n tries from k up try
abbrev pub Tried : ℕ → ℕ → ℕ → Type 0
Tried n k j = (k ≤ j) × (j < k + n)

module _ (f : ℕ → Ruling) where
  -- some of the tries finds a true
  abbrev Finds : ℕ → ℕ → Type 0
  Finds n k = (j : ℕ) × Tried n k j × Yes (f j)

  -- each of them does
  abbrev Keeps : ℕ → ℕ → Type 0
  Keeps n k = (j : ℕ) → Tried n k j → Yes (f j)

  finds_more : (n k : ℕ) → Finds (suc n) k ↔ (Yes (f k) ⊎ Finds n (k + 1))
  finds_more n k = (λ t. first t.0 t.1 t.2 (dec_lt k t.0), ⊎_elim (λ y. (k, (omega arith, omega arith), y)) later)
    where
      first : (j : ℕ) → Tried (suc n) k j → Yes (f j) → Dec (k < j) → Yes (f k) ⊎ Finds n (k + 1)
      first j t y (yes l) = inr (j, (omega arith, omega (arith, t)), y)
      first j t y (no l) = let e : j ≡ k = omega (arith, t) in inl (subst (λ i. Yes (f i)) e y)

      later : Finds n (k + 1) → Finds (suc n) k
      later t = (t.0, (omega (arith, t.1), omega (arith, t.1)), t.2)

  keeps_more : (n k : ℕ) → Keeps (suc n) k ↔ (Yes (f k) × Keeps n (k + 1))
  keeps_more n k = (λ t. (t k (omega arith, omega arith), λ j l. t j (omega (arith, l), omega (arith, l))), λ t j l. back t j l (dec_lt k j))
    where
      back : Yes (f k) × Keeps n (k + 1) → (j : ℕ) → Tried (suc n) k j → Dec (k < j) → Yes (f j)
      back t j l (yes m) = t.1 j (omega arith, omega (arith, l))
      back t j l (no m) = let e : k ≡ j = omega (arith, l) in subst (λ i. Yes (f i)) e t.0

  tries_some : (n k : ℕ) → Yes (tries true f n k) ↔ Finds n k
  unfolding tries
  tries_some zero k = (λ e. absurd (false≢true e), λ t. absurd (omega (arith, t.1)))
  tries_some (suc n) k =
      let rest = tries_some n (k + 1) in
      let one = one_some (f k).truth (f k).steps (tries true f n (k + 1)) in
      let more = finds_more n k in
      (λ t. more.1 (⊎_elim inl (λ u. inr (rest.0 u)) (one.0 t)), λ t. one.1 (⊎_elim inl (λ u. inr (rest.1 u)) (more.0 t)))

  tries_all : (n k : ℕ) → Yes (tries false f n k) ↔ Keeps n k
  unfolding tries
  tries_all zero k = (λ t j l. absurd (omega (arith, l)), λ t. refl)
  tries_all (suc n) k =
      let rest = tries_all n (k + 1) in
      let one = one_all (f k).truth (f k).steps (tries false f n (k + 1)) in
      let more = keeps_more n k in
      (λ t. more.1 ((one.0 t).0, rest.0 (one.0 t).1), λ t. one.1 ((more.0 t).0, rest.1 (more.0 t).1))

-- A run of tries is true if some try is, for an exists, or each, for a for-all.
pub tries_iff : (some : Bool) (f : ℕ → Ruling) (n k : ℕ) → Yes (tries some f n k) ↔ Quantified some ((j : ℕ) × Tried n k j) (λ x. Yes (f x.0))
tries_iff true f n k =
    (λ t. let w = (tries_some f n k).0 t in ((w.0, w.1), w.2), λ t. (tries_some f n k).1 (t.0.0, t.0.1, t.1))
tries_iff false f n k = (λ t x. (tries_all f n k).0 t x.0 x.1, λ t. (tries_all f n k).1 (λ j l. t (j, l)))

-- ---- steps

joined_steps : (some : Bool) (r rest : Ruling) → 1 ≤ r.steps → 1 ≤ (joined some r rest).steps
unfolding joined
joined_steps some r rest h = go (stops some r.truth)
  where
    go : (b : Bool) → 1 ≤ (cond b r (after r.steps rest)).steps
    go true = h
    go false = omega arith

-- A run of at least one try takes a step, if each try does.
pub tries_steps : (some : Bool) (f : ℕ → Ruling) (n k : ℕ) → 1 ≤ n → ((j : ℕ) → 1 ≤ (f j).steps) → 1 ≤ (tries some f n k).steps
unfolding tries
tries_steps some f zero k l h = absurd (omega arith)
tries_steps some f (suc n) k l h = joined_steps some (f k) (tries some f n (k + 1)) (h k)
