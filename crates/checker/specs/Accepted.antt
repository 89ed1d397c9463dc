-- What acceptance says of a claim besides that it is well sorted: it is within the limits of its dialect (`Dialect`), every
-- kind in it is taken there, and these counts are handed on.
-- Assumes nothing.
use Rattle.std.specs.Prelude.{◌≡◌, Bool, true, List, [], ◌∷◌, ◌≤◌, length}
use Rattle.checker.specs.declared.Dialect.{Dialect}
use Rattle.checker.specs.declared.Dialect.TheVariants.{SetClaims}
use Rattle.checker.specs.declared.Shape.{Shape}
use Rattle.checker.specs.Claim.{Node, Quantifier, Claim}
use Rattle.checker.specs.Kinds.{number}
use Rattle.checker.specs.Words.{fields_of, quantifier_word}
use Rattle.checker.specs.Sorts.{sets}
use Rattle.checker.specs.Dialect.{most_nodes, most_quantifiers, most_sets, takes_kind, takes_quantifier}

-- ---- limits

pub record LimitedAs (d : Dialect) (c : Claim) : Type 0 where
  pub some_nodes : 1 ≤ length c.nodes
  pub few_nodes : length c.nodes ≤ most_nodes d
  pub few_quantifiers : length c.quantifiers ≤ most_quantifiers d
  pub few_sets : sets c.quantifiers ≤ most_sets d

abbrev pub Limited : Claim → Type 0
Limited c = LimitedAs SetClaims c

-- ---- kinds

-- all of a list pass a test
abbrev pub All : {A : Type 0} → (A → Bool) → List A → Type 0
All p [] = Unit {0}
All p (x ∷ xs) = (p x ≡ true) × All p xs

abbrev pub KindsTaken : Dialect → List Node → Type 0
KindsTaken d ns = All (λ n. takes_kind d (fields_of n).kind) ns

abbrev pub QuantifiersTaken : Dialect → List Quantifier → Type 0
QuantifiersTaken d qs = All (λ q. takes_quantifier d (number (quantifier_word q))) qs

pub record Taken (d : Dialect) (c : Claim) : Type 0 where
  pub nodes : KindsTaken d c.nodes
  pub quantifiers : QuantifiersTaken d c.quantifiers

-- ---- counts

abbrev pub claim_shape : Claim → Shape
claim_shape c =
    record { nodes = length c.nodes; quantifiers = length c.quantifiers; sets = sets c.quantifiers; root = c.root }
