-- What the promises on the emission's size and form speak of (01, "The emission", last paragraph).
-- Assumes nothing.
use Rattle.std.specs.Prelude.{◌≡◌, Bool, false, not, List, [], ◌∷◌, ℕ, ◌+◌, ◌^◌, length, drop}
use Rattle.std.specs.Bool.{beq}
use Rattle.checker.specs.Claim.{Node, Quantifier, int_q, set_q, count_q, Claim}
use Rattle.checker.specs.Kinds.{is_set}
use Rattle.checker.specs.Sorts.{sort, sets}
use Rattle.checker.specs.Meaning.{bit}
use Rattle.emission.specs.Emission.{body, emission}

-- R, the number of regions of a claim
abbrev pub region_count : Claim → ℕ
region_count c = 2 ^ sets c.quantifiers

-- the nodes that follow those of the input nodes' runs
unfoldable pub constraint_part : Claim → List Node
constraint_part c = drop (length (body c).nodes) (emission c).nodes

-- ---- alternations

abbrev pub is_exists : Quantifier → Bool
is_exists (int_q some) = some
is_exists (set_q some) = some
is_exists (count_q some) = some

-- adjacent quantifiers of which one is an exists and the other a for-all
unfoldable pub alternations : List Quantifier → ℕ
alternations [] = 0
alternations (p ∷ []) = 0
alternations (p ∷ q ∷ qs) = bit (not (beq (is_exists p) (is_exists q))) + alternations (q ∷ qs)

-- ---- claims without sets

-- no node is a set; that no quantifier binds one is `sets qs ≡ 0`
abbrev pub NoSetNodes : List Node → Type 0
NoSetNodes [] = Unit {0}
NoSetNodes (n ∷ ns) = (is_set (sort n) ≡ false) × NoSetNodes ns
