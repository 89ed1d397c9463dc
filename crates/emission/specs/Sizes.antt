-- What the size of the emission is told by, beside the number of nodes and of sets (01, "The emission", last paragraph).
-- Assumes nothing.
use Rattle.std.specs.Prelude.{true, false, List, [], ◌∷◌, ℕ, suc}
use Rattle.checker.specs.Claim.{Quantifier, int_q, set_q, count_q}

-- how many of the quantifiers are for-all quantifiers over sets
unfoldable pub all_sets : List Quantifier → ℕ
all_sets [] = 0
all_sets (int_q some ∷ qs) = all_sets qs
all_sets (set_q true ∷ qs) = all_sets qs
all_sets (set_q false ∷ qs) = suc (all_sets qs)
all_sets (count_q some ∷ qs) = all_sets qs
