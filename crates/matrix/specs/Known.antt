-- What stands in the array of values while the counts of the final regions are settled one by one, from region 0 on. Assumes nothing.
use Rattle.std.specs.Prelude.{◌≡◌, true, false, List, ◌++◌, ℕ, ◌+◌, ◌*◌, ◌^◌, ◌<◌, ◌≤◌, ℤ, nat_abs, length, get_or, Option, Some, None, Ok}
use Rattle.checker.specs.declared.Shape.{Shape}
use Rattle.checker.specs.declared.Sort.{Sort}
use Rattle.checker.specs.declared.Sort.TheVariants.{ASet, ATerm, AFormula}
use Rattle.checker.specs.Claim.{unknown, Claim}
use Rattle.checker.specs.Words.{word, node_at, claim_of}
use Rattle.checker.specs.Sorts.{sort, sets}
use Rattle.checker.specs.Check.{max_nodes, check_of}
use Rattle.checker.specs.Meaning.{Value, as_num, as_truth, truth}
use Rattle.region.specs.Regions.{over, regions}
use Rattle.region.specs.Pattern.{covers_at}
use Rattle.matrix.specs.Bound.{max_bound, first_over}
use Rattle.matrix.specs.Work.{children, Every, bit_z, work}
use Rattle.matrix.specs.Entry.{node_values}

-- A claim in the words ws that can be worked out at size N: the checker accepts it, and no term's bound is too large.
pub record Ready (ws : List ℤ) (N : ℕ) : Type 0 where
  pub shape : Shape
  pub accepted : check_of ws ≡ Ok shape
  pub bounded : first_over N (claim_of ws) ≡ length (claim_of ws).nodes

-- The number x shows a value of a sort: a term's is the number itself, a formula's is 1 if it is true and 0 if not, and sets have none.
abbrev pub shows : Option Sort → ℤ → Value → Type 0
shows (Some ASet) x v = Unit {0}
shows (Some ATerm) x v = x ≡ as_num v
shows (Some AFormula) x v = x ≡ bit_z (as_truth v)
shows None x v = Unit {0}

-- Entry i of xs shows the value of node i at the counts cs.
abbrev pub Shown : Claim → List ℕ → List ℤ → ℕ → Type 0
Shown c cs xs i = shows (sort (get_or c.nodes i unknown)) (word xs i) (get_or (node_values (regions cs) c) i (truth false))

-- Counts of the final regions that have N ports together.
pub record Counts (c : Claim) (N : ℕ) (cs : List ℕ) : Type 0 where
  pub regions : length cs ≡ 2 ^ sets c.quantifiers
  pub total : over (λ r. true) cs ≡ N

-- The first regions may have the counts `front`: there are such counts for the others.
pub record Open (c : Claim) (N : ℕ) (front : List ℕ) : Type 0 where
  pub rest : List ℕ
  pub counts : Counts c N (front ++ rest)

-- The first n nodes of the order have their values in xs where the first regions have the counts `front`, whatever the other regions have.
pub record Known (c : Claim) (N : ℕ) (front : List ℕ) (order : List ℕ) (n : ℕ) (xs : List ℤ) : Type 0 where
  pub shown : (rest : List ℕ) → Counts c N (front ++ rest) → (k : ℕ) → k < n → Shown c (front ++ rest) xs (get_or order k 0)

-- From place k of the order up to place n, no node's entry covers a region from `regions` on.
abbrev pub Settled : List ℕ → ℕ → List ℕ → ℕ → ℕ → Type 0
Settled patterns regions order k n = (j : ℕ) → k ≤ j → j < n → (r : ℕ) → regions ≤ r → covers_at patterns (get_or order j 0) r ≡ false

-- For each number of first regions up to `regions`, how many leading places of the order, which has n, these settle.
abbrev pub Scheduled : List ℕ → ℕ → List ℕ → ℕ → List ℕ → Type 0
Scheduled patterns regions order n upto = (m : ℕ) → m ≤ regions → (get_or upto m 0 ≤ n) × Settled patterns m order 0 (get_or upto m 0)

-- The values of the first n nodes of the order are as they were.
abbrev pub Kept : List ℕ → ℕ → List ℤ → List ℤ → Type 0
Kept order n before after = (k : ℕ) → k < n → word after (get_or order k 0) ≡ word before (get_or order k 0)

-- Node i can be worked out from the earlier numbers xs, p ports being in the regions that its entry covers: its children are earlier nodes, and
-- no number on the way is too large.
pub record Workable (ws : List ℤ) (N p : ℕ) (xs : List ℤ) (i : ℕ) : Type 0 where
  pub few : i < max_nodes
  pub room : 3 * i + 3 ≤ length ws
  pub inside : i < length xs
  pub earlier : Every (λ a. (a < i) × (nat_abs (word xs a) ≤ max_bound)) (children (node_at ws i))
  pub small : nat_abs (work N p xs (node_at ws i)) ≤ max_bound
