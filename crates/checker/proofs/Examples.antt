-- Tables worked out by the definition itself, in each dialect: some that are accepted, and one for each number that is given. Beside a refusal
-- stand the number and the place that are told of it, as the document has them. Assumes nothing.
use Rattle.std.proofs.Common.{Result, Ok, Err}
use Rattle.std.specs.Prelude.{Option, Some, None}
use Rattle.checker.specs.declared.refusals.Refusal.TheVariants as refused
use Rattle.checker.specs.declared.Shape.{Shape}
use Rattle.checker.specs.declared.refusals.Refusal.{Refusal}
use mathlib.Core.Path.{◌≡◌, refl}
use mathlib.Core.List.{List, [], ◌∷◌, ◌++◌, map}
use Prim.Native.Nat.{ℕ}
use lib.IntN.{ℤ, pos, negsuc}
use Rattle.checker.specs.declared.Dialect.{Dialect}
use Rattle.checker.specs.declared.Dialect.TheVariants.{SetClaims, Emitted}
use Rattle.checker.specs.Kinds.{number, row_of, sort_of, range_of}
use Rattle.checker.specs.Words.{word_at, tab}
use Rattle.checker.specs.Search.{first, first_from, count}
use Rattle.checker.proofs.Rowwise.{◌▸◌}
use Rattle.checker.specs.Check.{verdict, check_as}
use Rattle.checker.specs.Refusals.{number_of, place_of}

-- a number and a place
abbrev Told : Type 0
Told = ℕ × ℕ

abbrev told_of : Refusal → Told
told_of r = (number_of r, place_of r)

-- what is told of an answer: nothing where a table is accepted
abbrev told_with : Result Shape Refusal → Option Told
told_with (Ok shape) = None
told_with (Err r) = Some (told_of r)

pub record Example : Type 0 where
  pub words : List ℤ
  pub answer : Result Shape Refusal
  pub told : Option Told

abbrev example : List ℤ → Result Shape Refusal × Option Told → Example
example ws (a, told) = record { words = ws; answer = a; told = told }

abbrev numbers : List ℕ → List ℤ
numbers ns = map pos ns

abbrev takes : Shape → Result Shape Refusal × Option Told
takes shape = (Ok shape, None)

abbrev gives : Refusal → ℕ → ℕ → Result Shape Refusal × Option Told
gives r n p = (Err r, Some (n, p))

-- MAXC = MAXC, under q quantifiers over counts
abbrev under : ℕ → List ℤ
under q = numbers (12 ∷ 0 ∷ 0 ∷ 20 ∷ 0 ∷ 0 ∷ []) ++ (tab q (λ i. pos 5) ++ numbers (1 ∷ 2 ∷ q ∷ 2005 ∷ []))

-- exists y, |y| = 1
abbrev claim : List ℤ
claim = numbers (1 ∷ 0 ∷ 0 ∷ 16 ∷ 0 ∷ 0 ∷ 11 ∷ 1 ∷ 0 ∷ 20 ∷ 1 ∷ 2 ∷ 3 ∷ 3 ∷ 4 ∷ 1 ∷ 2005 ∷ [])

-- its emission
abbrev emitted : List ℤ
emitted =
    numbers
    (10 ∷ 1 ∷ 0 ∷ 11 ∷ 1 ∷ 0 ∷ 20 ∷ 0 ∷ 1 ∷ 12 ∷ 0 ∷ 0 ∷ 10 ∷ 0 ∷ 0 ∷ 10 ∷ 1 ∷ 0 ∷ 13 ∷ 4 ∷ 5 ∷ 20 ∷ 3 ∷ 6 ∷ 25 ∷ 7 ∷ 2 ∷ 5 ∷ 5 ∷ 8 ∷ 9 ∷ 2 ∷ 2005 ∷ [])

abbrev pub examples : List Example
examples =
    example claim (takes (record { nodes = 4; quantifiers = 1; sets = 1; root = 3 }))
    ∷ example [] (gives refused.Unmarked 1 0)
    ∷ example (numbers (2 ∷ 0 ∷ 0 ∷ 0 ∷ 1 ∷ 0 ∷ 2006 ∷ [])) (gives refused.Unmarked 1 0)
    ∷ example (numbers (0 ∷ 0 ∷ 0 ∷ 2005 ∷ [])) (gives (refused.Count 1) 2 1)
    ∷ example (pos 0 ∷ pos 1 ∷ negsuc 0 ∷ pos 2005 ∷ []) (gives (refused.Count 2) 2 2)
    ∷ example (under 33) (gives (refused.Count 41) 2 41)
    ∷ example (numbers (2 ∷ 0 ∷ 0 ∷ 0 ∷ 2 ∷ 0 ∷ 2005 ∷ [])) (gives refused.Length 3 0)
    ∷ example (numbers (12 ∷ 0 ∷ 0 ∷ 3 ∷ 7 ∷ 0 ∷ 1 ∷ 2 ∷ 2005 ∷ [])) (gives (refused.UnknownQuantifier 4) 4 4)
    ∷ example (numbers (12 ∷ 0 ∷ 0 ∷ 3 ∷ 3 ∷ 4 ∷ 1 ∷ 3 ∷ 4 ∷ 3 ∷ 4 ∷ 3 ∷ 4 ∷ 0 ∷ 1 ∷ 10 ∷ 2005 ∷ [])) (gives (refused.TooManySets 12) 5 12)
    ∷ example (numbers (12 ∷ 0 ∷ 0 ∷ 20 ∷ 0 ∷ 1 ∷ 1 ∷ 2 ∷ 0 ∷ 2005 ∷ [])) (gives (refused.BadNode 3) 6 3)
    ∷ example (numbers (12 ∷ 0 ∷ 0 ∷ 0 ∷ 1 ∷ 0 ∷ 2005 ∷ [])) (gives (refused.BadRoot 3) 7 3)
    ∷ []

abbrev pub emitted_examples : List Example
emitted_examples =
    example emitted (takes (record { nodes = 9; quantifiers = 2; sets = 0; root = 8 }))
    ∷ example (under 33) (takes (record { nodes = 2; quantifiers = 33; sets = 0; root = 1 }))
    ∷ example (under 535) (gives (refused.Count 543) 2 543)
    ∷ example claim (gives (refused.UnknownQuantifier 12) 4 12)
    ∷ example (numbers (12 ∷ 0 ∷ 0 ∷ 2 ∷ 0 ∷ 0 ∷ 0 ∷ 2 ∷ 0 ∷ 2005 ∷ [])) (gives (refused.BadNode 3) 6 3)
    ∷ []

abbrev Right : Dialect → Example → Type 0
Right d e = (check_as d e.words ≡ e.answer) × (told_with e.answer ≡ e.told)

abbrev AllRight : Dialect → List Example → Type 0
AllRight d [] = Unit {0}
AllRight d (e ∷ es) = Right d e × AllRight d es

pub examples_right : AllRight SetClaims examples × AllRight Emitted emitted_examples
unfolding check_as verdict count first_from first word_at range_of sort_of row_of number number_of place_of
examples_right = (
  (refl, refl) ▸ (refl, refl) ▸ (refl, refl) ▸ (refl, refl) ▸ (refl, refl) ▸ (refl, refl) ▸ (refl, refl) ▸ (refl, refl)
      ▸ (refl, refl) ▸ (refl, refl) ▸ (refl, refl) ▸ tt,
  (refl, refl) ▸ (refl, refl) ▸ (refl, refl) ▸ (refl, refl) ▸ (refl, refl) ▸ tt,
)

-- ---- the refusals that the checker itself does not give: of a text, an output, a size, a quantifier over numbers, a bound or a number

pub record Telling : Type 0 where
  pub refusal : Refusal
  pub told : Told

abbrev telling : Refusal → ℕ → ℕ → Telling
telling r n p = record { refusal = r; told = (n, p) }

abbrev pub tellings : ℕ → List Telling
tellings p =
    telling refused.Unread 0 0
    ∷ telling (refused.TooShort p) 8 p
    ∷ telling refused.LargeSize 9 0
    ∷ telling (refused.OverNumbers p) 10 p
    ∷ telling (refused.LargeBound p) 11 p
    ∷ telling refused.LargeNumber 12 0
    ∷ telling refused.Unwritten 21 0
    ∷ []

abbrev AllTold : List Telling → Type 0
AllTold [] = Unit {0}
AllTold (t ∷ ts) = (told_of t.refusal ≡ t.told) × AllTold ts

pub told_right : (p : ℕ) → AllTold (tellings p)
unfolding number_of place_of
told_right p = refl ▸ refl ▸ refl ▸ refl ▸ refl ▸ refl ▸ refl ▸ tt
