-- The table of patterns, one entry a node (01, "Regions"): which regions each entry covers, so that a value asks only how many ports are there.
-- Assumes nothing.
use Rattle.std.specs.Prelude.{◌≡◌, true, false, not, ◌&&◌, ◌||◌, List, [], ℤ, ℕ, ◌<◌, ◌≤◌, ◌^◌, ltb, length, get_or, take, Ok}
use Rattle.std.specs.Bool.{xor}
use Rattle.checker.specs.declared.Shape.{Shape}
use Rattle.checker.specs.Claim.{Node, set_var, empty, whole, union, inter, compl, num_var, const, maxc, sum, diff, multiple, card, equal, less, divided, set_equal, subset, conj, disj, neg, unknown, Claim}
use Rattle.checker.specs.Words.{claim_of}
use Rattle.checker.specs.Check.{check_of}
use Rattle.checker.specs.Sorts.{sets}
use Rattle.checker.specs.Meaning.{Set, Value, World, set_at, values}
use Rattle.region.specs.Regions.{minus}
use Rattle.region.specs.Pattern.{entries, room_in, covers_at, Roomy}
use Rattle.matrix.specs.Final.{final_values}

-- What the entry of a node covers, from the quantifiers' values `qs` and the earlier nodes' values `vs`: a set node's own regions, those that a
-- cardinality counts, and those that must have no port for a subset or set equality to hold. Other nodes have an empty entry.
unfoldable pub entry_of : List Value → List Value → Node → Set
entry_of qs vs (set_var q) = set_at qs q
entry_of qs vs empty = λ r. false
entry_of qs vs whole = λ r. true
entry_of qs vs (union a b) = λ r. set_at vs a r || set_at vs b r
entry_of qs vs (inter a b) = λ r. set_at vs a r && set_at vs b r
entry_of qs vs (compl a) = λ r. not (set_at vs a r)
entry_of qs vs (num_var q) = λ r. false
entry_of qs vs (const c) = λ r. false
entry_of qs vs maxc = λ r. false
entry_of qs vs (sum a b) = λ r. false
entry_of qs vs (diff a b) = λ r. false
entry_of qs vs (multiple c b) = λ r. false
entry_of qs vs (card a) = set_at vs a
entry_of qs vs (equal a b) = λ r. false
entry_of qs vs (less a b) = λ r. false
entry_of qs vs (divided c b) = λ r. false
entry_of qs vs (set_equal a b) = λ r. xor (set_at vs a r) (set_at vs b r)
entry_of qs vs (subset a b) = minus (set_at vs a) (set_at vs b)
entry_of qs vs (conj a b) = λ r. false
entry_of qs vs (disj a b) = λ r. false
entry_of qs vs (neg a) = λ r. false
entry_of qs vs unknown = λ r. false

-- The values of a claim's nodes over the final regions, in a world w of these.
unfoldable pub node_values : World → Claim → List Value
node_values w c = values w (final_values c.quantifiers) [] c.nodes

-- The entries of the first n nodes stand in the table, cut to the regions that there are. The world does not matter: no set depends on it.
pub record Filled (c : Claim) (n : ℕ) (patterns : List ℕ) : Type 0 where
  pub long : n ≤ entries patterns
  pub room : 2 ^ sets c.quantifiers ≤ room_in patterns
  pub entry : (w : World) (i : ℕ) → i < n → (r : ℕ)
      → covers_at patterns i r ≡ (ltb r (2 ^ sets c.quantifiers) && entry_of (final_values c.quantifiers) (take i (node_values w c)) (get_or c.nodes i unknown) r)

-- The table is as long as it was, and its entries from n on cover what they did.
pub record Beyond (n : ℕ) (before after : List ℕ) : Type 0 where
  pub long : length after ≡ length before
  pub kept : (i : ℕ) → n ≤ i → (r : ℕ) → covers_at after i r ≡ covers_at before i r

-- The entry of node i can be filled: the checker accepts the words, there is room, and the entries of the nodes before it stand.
pub record Next (ws : List ℤ) (shape : Shape) (i : ℕ) (patterns : List ℕ) : Type 0 where
  pub accepted : check_of ws ≡ Ok shape
  pub node : i < shape.nodes
  pub roomy : Roomy shape patterns
  pub filled : Filled (claim_of ws) i patterns
