-- The quantifiers' values over the final regions (01, "Regions"): the outermost set is the highest bit of a final region's number.
-- Assumes nothing.
use Rattle.std.specs.Prelude.{List, [], ◌∷◌, ◌/◌, ◌^◌, pos}
use Rattle.checker.specs.Claim.{Quantifier, int_q, set_q, count_q}
use Rattle.checker.specs.Sorts.{sets}
use Rattle.checker.specs.Meaning.{Value, set, num}
use Rattle.region.specs.Regions.{odd}

-- A set with m sets inside it covers the regions whose bit m stands. A number has no value here: the decider refuses it.
unfoldable pub final_values : List Quantifier → List Value
final_values [] = []
final_values (int_q some ∷ qs) = num (pos 0) ∷ final_values qs
final_values (set_q some ∷ qs) = set (λ r. odd (r / 2 ^ sets qs)) ∷ final_values qs
final_values (count_q some ∷ qs) = num (pos 0) ∷ final_values qs
