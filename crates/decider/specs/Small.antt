-- The small claims with known outcomes that 01 marks with a star, as words, and what it says of them: the truth is that of the meaning, and
-- the steps are those of the rule. Assumes nothing.
use Rattle.std.specs.Prelude.{◌≡◌, ◌↔◌, Bool, true, false, List, [], ◌∷◌, map, ℕ, ℤ, pos}
use Rattle.checker.specs.Words.{claim_of}
use Rattle.checker.specs.Meaning.{TrueAt}
use Rattle.decider.specs.Plan.{ruling}

pub record Case : Type 0 where
  pub words : List ℤ
  pub size : ℕ
  pub truth : Bool
  pub steps : ℕ

-- The claim has this truth at this size, and the rule takes so many steps there.
abbrev pub Right : Case → Type 0
Right k = (TrueAt k.size (claim_of k.words) ↔ (k.truth ≡ true)) × ((ruling k.size (claim_of k.words)).steps ≡ k.steps)

abbrev pub AllRight : List Case → Type 0
AllRight [] = Unit {0}
AllRight (k ∷ ks) = Right k × AllRight ks

-- exists y, |y| = 1
abbrev pub single : List ℕ
single = 1 ∷ 0 ∷ 0 ∷ 16 ∷ 0 ∷ 0 ∷ 11 ∷ 1 ∷ 0 ∷ 20 ∷ 1 ∷ 2 ∷ 3 ∷ 3 ∷ 4 ∷ 1 ∷ 2005 ∷ []

-- exists x, not empty and not whole
abbrev pub proper : List ℕ
proper =
    1 ∷ 0 ∷ 0 ∷ 2 ∷ 0 ∷ 0 ∷ 3 ∷ 0 ∷ 0 ∷ 23 ∷ 0 ∷ 1 ∷ 27 ∷ 3 ∷ 0 ∷ 23 ∷ 0 ∷ 2 ∷ 27 ∷ 5 ∷ 0 ∷ 25 ∷ 4 ∷ 6 ∷ 3 ∷ 7 ∷ 8 ∷ 1 ∷ 2005 ∷ []

-- whole subset of empty
abbrev pub nothing : List ℕ
nothing = 3 ∷ 0 ∷ 0 ∷ 2 ∷ 0 ∷ 0 ∷ 24 ∷ 0 ∷ 1 ∷ 2 ∷ 3 ∷ 0 ∷ 2005 ∷ []

-- for all x, |x| + |complement of x| = MAXC
abbrev pub both : List ℕ
both =
    1 ∷ 0 ∷ 0 ∷ 6 ∷ 0 ∷ 0 ∷ 16 ∷ 0 ∷ 0 ∷ 16 ∷ 1 ∷ 0 ∷ 13 ∷ 2 ∷ 3 ∷ 12 ∷ 0 ∷ 0 ∷ 20 ∷ 4 ∷ 5 ∷ 4 ∷ 6 ∷ 7 ∷ 1 ∷ 2005 ∷ []

-- for all x exists y, |x and y| = |x minus y|
abbrev pub halved : List ℕ
halved =
    1 ∷ 0 ∷ 0 ∷ 1 ∷ 1 ∷ 0 ∷ 5 ∷ 0 ∷ 1 ∷ 6 ∷ 1 ∷ 0 ∷ 5 ∷ 0 ∷ 3 ∷ 16 ∷ 2 ∷ 0 ∷ 16 ∷ 4 ∷ 0 ∷ 20 ∷ 5 ∷ 6 ∷ 4 ∷ 3 ∷ 7 ∷ 8 ∷ 2 ∷ 2005 ∷ []

abbrev pub case : List ℕ → ℕ → Bool → ℕ → Case
case ws n t s = record { words = map pos ws; size = n; truth = t; steps = s }

abbrev pub small_claims : List Case
small_claims =
    case single 0 false 1
    ∷ case single 1 true 2
    ∷ case single 3 true 2
    ∷ case proper 1 false 2
    ∷ case proper 2 true 2
    ∷ case nothing 0 true 1
    ∷ case nothing 1 false 1
    ∷ case both 5 true 6
    ∷ case halved 0 true 1
    ∷ case halved 1 false 3
    ∷ []
