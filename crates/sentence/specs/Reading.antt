-- What a reader of texts answers: the claim that the writer takes and that has this text. There is at most one (`Reading.text_once`).
-- Assumes nothing.
use Rattle.std.specs.Prelude.{◌≡◌, List, [], ◌∷◌, ℕ, ◌≤◌, nat_abs, length}
use Rattle.checker.specs.Claim.{Node, Claim}
use Rattle.checker.specs.Words.{fields_of}
use Rattle.sentence.specs.Text.{text_of}
use Rattle.sentence.specs.Scan.{Limits}

-- `Taken` says which claims the writer takes.
abbrev pub Reads : (Claim → Type 0) → List ℕ → Claim → Type 0
Reads Taken text c = Taken c × (text_of c ≡ text)

-- ---- claims that a scan can give

abbrev pub AllWithin : ℕ → List Node → Type 0
AllWithin most [] = Unit {0}
AllWithin most (n ∷ ns) = (nat_abs (fields_of n).a ≤ most) × (nat_abs (fields_of n).b ≤ most) × AllWithin most ns

pub record Within (most : Limits) (c : Claim) : Type 0 where
  pub few_nodes : length c.nodes ≤ most.nodes
  pub few_quantifiers : length c.quantifiers ≤ most.quantifiers
  pub small_root : c.root ≤ most.number
  pub small_fields : AllWithin most.number c.nodes
