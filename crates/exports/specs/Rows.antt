-- Answers as rows of seven numbers: the outcome (0 refused, 1 accepted, emitted or true, 2 false, 3 spent), the refusal's number and place,
-- and up to four values; what an answer does not have is 0. Assumes nothing.
use Rattle.std.specs.Prelude.{List, [], ◌∷◌, ◌++◌, ℕ, length, take, drop, Result, Ok, Err}
use Rattle.checker.specs.declared.Shape.{Shape}
use Rattle.checker.specs.declared.refusals.Refusal.{Refusal}
use Rattle.checker.specs.Refusals.{number_of, place_of}
use Rattle.decider.specs.declared.Decision.{Decision}
use Rattle.decider.specs.declared.Decision.TheVariants as decision

abbrev pub refused_row : Refusal → List ℕ
refused_row r = 0 ∷ number_of r ∷ place_of r ∷ 0 ∷ 0 ∷ 0 ∷ 0 ∷ []

-- an outcome with one value
abbrev pub value_row : ℕ → ℕ → List ℕ
value_row outcome n = outcome ∷ 0 ∷ 0 ∷ n ∷ 0 ∷ 0 ∷ 0 ∷ []

-- nodes, quantifiers, set quantifiers, root
abbrev pub check_row : Result Shape Refusal → List ℕ
check_row (Ok s) = 1 ∷ 0 ∷ 0 ∷ s.nodes ∷ s.quantifiers ∷ s.sets ∷ s.root ∷ []
check_row (Err r) = refused_row r

-- the words emitted
abbrev pub reduce_row : Result ℕ Refusal → List ℕ
reduce_row (Ok n) = value_row 1 n
reduce_row (Err r) = refused_row r

-- the steps
abbrev pub decide_row : Result Decision Refusal → List ℕ
decide_row (Ok (decision.True n)) = value_row 1 n
decide_row (Ok (decision.False n)) = value_row 2 n
decide_row (Ok (decision.Spent n)) = value_row 3 n
decide_row (Err r) = refused_row r

-- A list with a row at its front, of which it takes what fits.
unfoldable pub with_row : List ℕ → List ℕ → List ℕ
with_row row l = take (length l) row ++ drop (length row) l
