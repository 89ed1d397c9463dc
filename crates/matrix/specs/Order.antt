-- The order in which the nodes that are needed are worked out: children first. Assumes nothing.
use Rattle.std.specs.Prelude.{◌≡◌, List, ℕ, ◌<◌, ◌≤◌, length, get_or}
use Rattle.checker.specs.Claim.{unknown, Claim}
use Rattle.matrix.specs.Work.{children, Every}

-- node i is one of the first n of the order
abbrev pub Has : List ℕ → ℕ → ℕ → Type 0
Has order n i = (k : ℕ) × (k < n) × (get_or order k 0 ≡ i)

-- The first n places of the order name nodes, each once and after its children.
pub record Order (c : Claim) (order : List ℕ) (n : ℕ) : Type 0 where
  pub long : n ≤ length order
  pub nodes : (k : ℕ) → k < n → get_or order k 0 < length c.nodes
  pub once : (j k : ℕ) → j < k → k < n → get_or order j 0 ≡ get_or order k 0 → ⊥
  pub after : (k : ℕ) → k < n → Every (Has order k) (children (get_or c.nodes (get_or order k 0) unknown))
