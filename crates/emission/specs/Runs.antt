-- The emission as the code goes through it, node by node: what stands after the first i nodes, the run of node i, and what the code keeps of the
-- nodes before it. Assumes nothing.
use Rattle.std.specs.Prelude.{◌≡◌, ◌&&◌, List, [], ℕ, ◌<◌, ◌≤◌, ltb, ℤ, length, get_or, take, Some, Ok}
use Rattle.checker.specs.declared.Shape.{Shape}
use Rattle.checker.specs.declared.Sort.TheVariants.{ASet}
use Rattle.checker.specs.Claim.{Node, unknown, Claim}
use Rattle.checker.specs.Words.{claim_of}
use Rattle.checker.specs.Sorts.{sort}
use Rattle.checker.specs.Check.{check_of}
use Rattle.region.specs.Regions.{minus, covered}
use Rattle.region.specs.Pattern.{entries, room_in, covers_at}
use Rattle.emission.specs.Emission.{Frame, none, start, inside_all, run_of, Emitted, emit_nodes}
use Rattle.emission.specs.Plan.{Planned}

abbrev pub frame_of : Claim → Frame
frame_of c = inside_all start c.quantifiers

unfoldable pub emitted_to : Claim → ℕ → Emitted
emitted_to c i = emit_nodes (frame_of c) (record { nodes = []; stands = []; patterns = [] }) (take i c.nodes)

unfoldable pub run_at : Claim → ℕ → List Node
run_at c i = run_of (frame_of c) (length e.nodes) (λ a. get_or e.stands a 0) (λ a. get_or e.patterns a none) (get_or c.nodes i unknown)
  where
    e : Emitted
    e = emitted_to c i

-- The entries of the set nodes among the first i cover what these nodes do, cut to the regions that there are.
pub record Patterned (c : Claim) (patterns : List ℕ) (i : ℕ) : Type 0 where
  pub long : length c.nodes ≤ entries patterns
  pub room : (frame_of c).regions ≤ room_in patterns
  pub covers : (a : ℕ) → a < i → sort (get_or c.nodes a unknown) ≡ Some ASet → (r : ℕ)
      → covers_at patterns a r ≡ (ltb r (frame_of c).regions && get_or (emitted_to c i).patterns a none r)

-- The nodes that stand for the first i nodes are noted.
pub record Standing (c : Claim) (stands : List ℕ) (i : ℕ) : Type 0 where
  pub long : length c.nodes ≤ length stands
  pub same : take i stands ≡ (emitted_to c i).stands

-- What is asked before node i.
pub record Ready (ws : List ℤ) (shape : Shape) (plan : List ℕ) (i : ℕ) : Type 0 where
  pub accepted : check_of ws ≡ Ok shape
  pub planned : Planned plan (claim_of ws).quantifiers
  pub here : i < shape.nodes

-- the regions that entry a covers and entry b does not
unfoldable pub without : List ℕ → ℕ → ℕ → List ℕ
without patterns a b = covered 0 (room_in patterns) (minus (covers_at patterns a) (covers_at patterns b))

-- Every entry but entry i covers what it did.
pub record Spared (before : List ℕ) (i : ℕ) (after : List ℕ) : Type 0 where
  pub long : length after ≡ length before
  pub kept : (j : ℕ) → (j ≡ i → ⊥) → (r : ℕ) → covers_at after j r ≡ covers_at before j r

-- A kind above the sets that is none of the three with runs of their own: it becomes one node.
pub record Single (k : ℕ) : Type 0 where
  pub high : 6 < k
  pub no_card : k ≡ 16 → ⊥
  pub no_equal : k ≡ 23 → ⊥
  pub no_subset : k ≡ 24 → ⊥
