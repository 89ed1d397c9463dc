-- What follows the runs of the nodes, as the code goes through it: the constraints, from the innermost quantifier to the outermost.
-- Assumes nothing.
use Rattle.std.specs.Prelude.{◌≡◌, true, List, ◌++◌, map, ℕ, ◌+◌, ◌*◌, ◌^◌, ◌≤◌, ℤ, length, get_or, take, drop, Ok}
use Rattle.checker.specs.declared.Shape.{Shape}
use Rattle.checker.specs.Claim.{Node, int_q, Claim}
use Rattle.checker.specs.Words.{claim_of, nodes_words, quantifier_word, trailer}
use Rattle.checker.specs.Check.{max_sets, check_of}
use Rattle.emission.specs.declared.Frame as code
use Rattle.emission.specs.Emission.{counts, start, inside_all, becomes, constraint, Body, close, body, emission}
use Rattle.emission.specs.Plan.{place_in, Planned}
use Rattle.emission.specs.Write.{max_number}
use Rattle.emission.specs.declared.Body as kept
use Rattle.reducer.specs.Sizes.{constraint_part}

-- What is asked of the words, of what the checker says of them and of what their quantifiers give.
pub record Prepared (ws : List ℤ) (shape : Shape) (plan : List ℕ) : Type 0 where
  pub accepted : check_of ws ≡ Ok shape
  pub planned : Planned plan (claim_of ws).quantifiers

-- ---- one quantifier

-- the constraint of a set quantifier after k nodes, f being what the quantifiers outside it give
unfoldable pub constraint_in : code.Frame → ℕ → List Node
constraint_in f k = constraint (place_in f) (counts f.next) k (2 ^ f.level)

-- The numbers of the regions, and of the parts that one more set splits them into, are words.
pub record Within (f : code.Frame) : Type 0 where
  pub level : f.level ≤ max_sets
  pub regions : f.first + 2 ^ f.level ≤ max_number
  pub parts : f.next + 2 * 2 ^ f.level ≤ max_number

-- ---- all

-- the body with the constraints of the quantifiers from number j on
unfoldable pub closed_from : Claim → ℕ → Body
closed_from c j = close (inside_all start (take j c.quantifiers)) (drop j c.quantifiers) (body c)

-- what b' has after the nodes of b
abbrev pub added : Body → Body → List Node
added b b' = drop (length b.nodes) b'.nodes

-- b as the code keeps it
pub record Tells (b : Body) (k : kept.Body) : Type 0 where
  pub nodes : k.nodes ≡ length b.nodes
  pub root : k.root ≡ b.root

-- ---- quantifiers

-- the words of what quantifier j becomes
unfoldable pub becomes_at : Claim → ℕ → List ℤ
becomes_at c j = map quantifier_word (becomes (inside_all start (take j c.quantifiers)) (get_or c.quantifiers j (int_q true)))

-- ---- the words after those of the nodes' runs

unfoldable pub closing : Claim → List ℤ
closing c = nodes_words (constraint_part c) ++ (map quantifier_word (emission c).quantifiers ++ trailer (emission c))
