-- How the order is made: which nodes the root needs, how many regions settle each entry, and what stands while nodes are placed.
-- Assumes nothing.
use Rattle.std.specs.Prelude.{◌≡◌, Bool, true, false, List, [], ◌∷◌, ℕ, ◌≤◌, ◌<◌, length, get_or}
use Rattle.checker.specs.Claim.{unknown, Claim}
use Rattle.checker.specs.Search.{count}
use Rattle.matrix.specs.declared.order.Operands.{Operands}
use Rattle.matrix.specs.declared.order.Operands.TheVariants.{Nothing, One, Two}
use Rattle.matrix.specs.Work.{children, Every}
use Rattle.matrix.specs.Order.{Has, Order}

-- the nodes that operands name
abbrev pub listed : Operands → List ℕ
listed Nothing = []
listed (One a) = a ∷ []
listed (Two a b) = a ∷ b ∷ []

-- node i is marked
abbrev pub marked : List Bool → ℕ → Bool
marked marks i = get_or marks i false

-- Some nodes more are marked.
pub record Marked (before : List Bool) (nodes : List ℕ) (after : List Bool) : Type 0 where
  pub now_marked : Every (λ x. marked after x ≡ true) nodes
  pub still : (x : ℕ) → marked before x ≡ true → marked after x ≡ true
  pub others : (x : ℕ) → Every (λ y. y < x) nodes → marked after x ≡ marked before x

-- The root is marked, and with each node its children are.
pub record Closed (c : Claim) (marks : List Bool) : Type 0 where
  pub root : marked marks c.root ≡ true
  pub children_too : (i : ℕ) → i < length c.nodes → marked marks i ≡ true → Every (λ x. marked marks x ≡ true) (children (get_or c.nodes i unknown))

-- The first n places of the order name the marked nodes.
pub record Placed (c : Claim) (marks : List Bool) (order : List ℕ) (n : ℕ) : Type 0 where
  pub ordered : Order c order n
  pub all : (i : ℕ) → marked marks i ≡ true → Has order n i
  pub only : (k : ℕ) → k < n → marked marks (get_or order k 0) ≡ true
  pub many : n ≡ count (marked marks) (length c.nodes)

-- Node i can be placed next: it is needed and not placed yet, the first m regions settle its entry, and its children are placed.
pub record Placeable (c : Claim) (needed placed : List Bool) (reach : List ℕ) (m i : ℕ) : Type 0 where
  pub wanted : marked needed i ≡ true
  pub new : marked placed i ≡ false
  pub settled : get_or reach i 0 ≤ m
  pub ready : Every (λ x. marked placed x ≡ true) (children (get_or c.nodes i unknown))

-- What one pass over the nodes does, which places those that the first m regions settle: the order had n places before and has n' then.
pub record Passed (c : Claim) (needed : List Bool) (reach : List ℕ) (m : ℕ) (before : List ℕ) (n : ℕ) (placed : List Bool) (after : List ℕ) (n' : ℕ) : Type 0 where
  pub more : n ≤ n'
  pub kept : (k : ℕ) → k < n → get_or after k 0 ≡ get_or before k 0
  pub settled : (k : ℕ) → n ≤ k → k < n' → get_or reach (get_or after k 0) 0 ≤ m
  pub all : ((i : ℕ) → i < length c.nodes → get_or reach i 0 ≤ m) → (i : ℕ) → i < length c.nodes → marked needed i ≡ true → marked placed i ≡ true

-- What all passes do, for 0 up to `regions` first regions: after each, `upto` has how many are placed. If all regions settle every node, every needed
-- one is placed.
pub record Ranked (c : Claim) (needed placed : List Bool) (reach order : List ℕ) (n : ℕ) (upto : List ℕ) (regions : ℕ) : Type 0 where
  pub most : (q : ℕ) → q ≤ regions → get_or upto q 0 ≤ n
  pub settled : (q : ℕ) → q ≤ regions → (k : ℕ) → k < get_or upto q 0 → get_or reach (get_or order k 0) 0 ≤ q
  pub all : ((i : ℕ) → i < length c.nodes → get_or reach i 0 ≤ regions) → (i : ℕ) → i < length c.nodes → marked needed i ≡ true → marked placed i ≡ true
