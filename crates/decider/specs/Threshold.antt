-- The claims whose truth stays as it is from a size on (01, demand 3): those that compare cardinalities with constants only, and among them
-- those without any number terms and comparisons. Assumes nothing.
use Rattle.std.specs.Prelude.{◌≡◌, Bool, true, cond, not, ◌&&◌, ◌||◌, List, [], ◌∷◌, ◌++◌, ℕ, max, eqb, ℤ, pos, negsuc, get_or}
use Rattle.checker.specs.Claim.{Node, unknown, Claim}
use Rattle.checker.specs.Kinds.{number, within}
use Rattle.checker.specs.Words.{fields_of}

abbrev pub kind : Node → ℕ
kind n = (fields_of n).kind

abbrev pub is_constant : Node → Bool
is_constant n = eqb (kind n) 11

abbrev pub is_cardinality : Node → Bool
is_cardinality n = eqb (kind n) 16

-- One of the two is a cardinality, and the other a constant.
abbrev pub joins : Node → Node → Bool
joins m n = is_cardinality m && is_constant n || is_constant m && is_cardinality n

-- A node may stand after the nodes `done`: a comparison joins a cardinality and a constant, and kinds 10, 12 to 15 and 22 may not stand.
unfoldable pub allowed : List Node → Node → Bool
allowed done n =
    cond (within 20 21 (kind n))
    (joins (get_or done (number (fields_of n).a) unknown) (get_or done (number (fields_of n).b) unknown))
    (not (eqb (kind n) 10 || within 12 15 (kind n) || eqb (kind n) 22))

unfoldable pub all_allowed : List Node → List Node → Bool
all_allowed done [] = true
all_allowed done (n ∷ ns) = allowed done n && all_allowed (done ++ n ∷ []) ns

pub record Thresholds (c : Claim) : Type 0 where
  pub only : all_allowed [] c.nodes ≡ true

-- a word, where it is above 0
abbrev pub above : ℤ → ℕ
above (pos n) = n
above (negsuc n) = 0

-- The largest constant of the nodes, or 0 if there is none above 0.
unfoldable pub largest : List Node → ℕ
largest [] = 0
largest (n ∷ ns) = max (cond (is_constant n) (above (fields_of n).a) 0) (largest ns)

-- No node is of kinds 10 to 16 or 20 to 22.
unfoldable pub no_numbers : List Node → Bool
no_numbers [] = true
no_numbers (n ∷ ns) = not (within 10 16 (kind n) || within 20 22 (kind n)) && no_numbers ns
