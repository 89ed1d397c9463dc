-- A number read digit by digit: what is left of the digits decides.
-- Assumes nothing.
use Rattle.std.proofs.Common.{◌≡◌, ℕ, ◌+◌, ◌*◌, ◌-◌, ◌<◌, ◌≤◌, cond, ◌&&◌, leb, List, [], ◌∷◌, length, drop, get_or, Option, Some, None, refl, arith, le_refl, zero-le}
use Rattle.std.specs.Option.{option_and_then}
use Rattle.std.proofs.lemmas.Bool.Decides.{nat_tests}
use Rattle.std.proofs.lemmas.Option.{cond_some}
use Rattle.std.proofs.lemmas.List.{at_drop_more, at_drop_all}
use Rattle.decimal.specs.Reading.{value_after, digits, number_in, next_in}

-- the number that digits make after those that say n
abbrev pub number_from : ℕ → ℕ → List ℕ → Option ℕ
number_from most n [] = Some n
number_from most n (d ∷ ds) = option_and_then (λ m. number_from most m ds) (next_in most n d)

-- further digits make no number smaller
value_more : (n : ℕ) (ds : List ℕ) → n ≤ value_after n ds
unfolding value_after
value_more n [] = le_refl n
value_more n (d ∷ ds) = omega (arith, value_more (10 * n + (d - 48)) ds)

number_left : (most n : ℕ) (ds : List ℕ) → n ≤ most
    → number_from most n ds ≡ cond (digits ds && leb (value_after n ds) most) (Some (value_after n ds)) None
unfolding value_after digits next_in
number_left most n [] h = grind (arith, nat_tests)
number_left most n (d ∷ ds) h =
    let more = value_more (10 * n + (d - 48)) ds in
    let rest = number_left most (10 * n + (d - 48)) ds in
    grind (arith, nat_tests)

pub number_none : (most : ℕ) (ds : List ℕ) → length ds ≡ 0 → number_in most ds ≡ None
unfolding number_in
number_none most [] h = refl
number_none most (d ∷ ds) h = absurd (omega arith)

pub number_some : (most : ℕ) (ds : List ℕ) → (length ds ≡ 0 → ⊥) → number_in most ds ≡ number_from most 0 ds
unfolding number_in
number_some most [] h = absurd (h refl)
number_some most (d ∷ ds) h = rw (number_left most 0 (d ∷ ds) (zero-le))

pub number_within : (most n : ℕ) (ds : List ℕ) → number_in most ds ≡ Some n → n ≤ most
unfolding number_in
number_within most n ds e = grind (arith, nat_tests, cond_some)

-- ---- what is left of the digits from place i on

pub number_more : (most n i : ℕ) (ds : List ℕ) → i < length ds
    → number_from most n (drop i ds) ≡ option_and_then (λ m. number_from most m (drop (i + 1) ds)) (next_in most n (get_or ds i 0))
number_more most n i ds h = at_drop_more (number_from most n) ds i 0 h

pub number_done : (most n i : ℕ) (ds : List ℕ) → length ds ≤ i → number_from most n (drop i ds) ≡ Some n
number_done most n i ds h = at_drop_all (number_from most n) ds i h

pub ruleset numbers = (number_none, number_some, number_more, number_done)
