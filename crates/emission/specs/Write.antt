-- Nodes written into a lent list: what there is room for, and what was written. A node takes three words.
-- Assumes nothing.
use Rattle.std.specs.Prelude.{List, ℕ, ◌+◌, ◌*◌, ◌≤◌, ℤ, length}
use Rattle.checker.specs.Claim.{Node}
use Rattle.checker.specs.Words.{nodes_words}
use Rattle.lent.specs.Write.{Wrote}

-- the largest number that a word holds
abbrev pub max_number : ℕ
max_number = 2147483647

-- n nodes have room in l from node `at` on, and their numbers are words
pub record Room (l : List ℤ) (at n : ℕ) : Type 0 where
  pub fits : 3 * (at + n) ≤ length l
  pub numbers : at + n ≤ max_number

-- From l to l' the nodes ns were written from node `at` on, and `next` is the number of the node after them.
pub record WroteNodes (l : List ℤ) (at : ℕ) (ns : List Node) (l' : List ℤ) (next : ℕ) : Type 0 where
  pub words : Wrote l (3 * at) (nodes_words ns) l' (3 * next)
