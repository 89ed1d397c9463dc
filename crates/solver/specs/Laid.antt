-- What the functions below the writer's entry ask of a table, and the parts of a text that they count.
-- Assumes nothing.
use Rattle.std.specs.Prelude.{◌≡◌, List, ℕ, ◌+◌, ◌*◌, ◌^◌, ◌<◌, ◌≤◌, ℤ, length}
use Rattle.checker.specs.declared.Shape.{Shape}
use Rattle.checker.specs.declared.Dialect.TheVariants.{Emitted}
use Rattle.checker.specs.Claim.{Quantifier, int_q, set_q, count_q}
use Rattle.checker.specs.Words.{claim_of}
use Rattle.checker.specs.Dialect.{most_nodes, most_quantifiers}
use Rattle.sentence.specs.Bytes.{bytes}
use Rattle.solver.specs.Pieces.{one_text}

-- the words ws have this shape, and are within the limits of emissions
pub record Laid (ws : List ℤ) (s : Shape) : Type 0 where
  pub nodes : s.nodes ≡ length (claim_of ws).nodes
  pub quantifiers : s.quantifiers ≡ length (claim_of ws).quantifiers
  pub root : s.root ≡ (claim_of ws).root
  pub few_nodes : s.nodes ≤ most_nodes Emitted
  pub few_quantifiers : s.quantifiers ≤ most_quantifiers Emitted
  pub long : length ws ≡ 3 * s.nodes + s.quantifiers + 4

-- at most ten digits: so is every number in a table
abbrev pub Ten : ℕ → Type 0
Ten n = n < 10 ^ 10

-- No line of a node and no lines of a quantifier are longer.
abbrev pub longest_line : ℕ
longest_line = 64

-- the root on its line
abbrev pub root_line : ℕ → List ℕ
root_line r = one_text (bytes "n") r (bytes "\n")

-- how many brackets the lines of a quantifier leave open
abbrev pub opened_by : Quantifier → ℕ
opened_by (int_q some) = 1
opened_by (set_q some) = 0
opened_by (count_q some) = 2
