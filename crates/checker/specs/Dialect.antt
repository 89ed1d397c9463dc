-- The two dialects of the claim table: claims over sets, within the limits of 01 and #113, and emitted claims, which are larger and know no sets.
-- Of each: how much it holds, and which kinds of nodes and quantifiers it takes. Those that it does not take are unknown to it (refusals 6 and 4).
-- Assumes nothing.
use Rattle.std.specs.Prelude.{Bool, true, ◌||◌, ℕ}
use Rattle.checker.specs.declared.Dialect.{Dialect}
use Rattle.checker.specs.declared.Dialect.TheVariants.{SetClaims, Emitted}
use Rattle.checker.specs.declared.Range.TheVariants.{Numbers}
use Rattle.checker.specs.Kinds.{within, range_of, is_range}

-- ---- limits: those of claims over sets, and what 01's bound on an emission's size comes to at them

abbrev pub most_nodes : Dialect → ℕ
most_nodes SetClaims = 1024
most_nodes Emitted = 530946

abbrev pub most_quantifiers : Dialect → ℕ
most_quantifiers SetClaims = 32
most_quantifiers Emitted = 534

abbrev pub most_sets : Dialect → ℕ
most_sets SetClaims = 8
most_sets Emitted = 0

-- ---- kinds

-- The kinds of nodes that are no sets and speak of none: those of 01 but 1 to 6, 16, 23 and 24.
abbrev pub speaks_of_numbers : ℕ → Bool
speaks_of_numbers kind = within 10 15 kind || (within 20 22 kind || within 25 27 kind)

abbrev pub takes_kind : Dialect → ℕ → Bool
takes_kind SetClaims kind = true
takes_kind Emitted kind = speaks_of_numbers kind

abbrev pub takes_quantifier : Dialect → ℕ → Bool
takes_quantifier SetClaims kind = true
takes_quantifier Emitted kind = is_range Numbers (range_of kind)
