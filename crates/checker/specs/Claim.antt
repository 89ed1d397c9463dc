-- The one vocabulary (01, "The claim table"): nodes, quantifiers and claims, as every layer speaks of them.
-- Assumes nothing.
use Rattle.std.specs.Prelude.{Bool, List, ℕ, ℤ}

-- A node, by its kind. `q` is a quantifier's number, `a` and `b` are numbers of earlier nodes, `c` is any integer.
-- `unknown` is what a kind outside the table reads as; no accepted claim has one.
pub data Node : Type 0 where
  set_var : (q : ℕ) → Node
  empty whole : Node
  union inter : (a b : ℕ) → Node
  compl : (a : ℕ) → Node
  num_var : (q : ℕ) → Node
  const : (c : ℤ) → Node
  maxc : Node
  sum diff : (a b : ℕ) → Node
  multiple : (c : ℤ) (b : ℕ) → Node
  card : (a : ℕ) → Node
  equal less : (a b : ℕ) → Node
  divided : (c : ℤ) (b : ℕ) → Node
  set_equal subset : (a b : ℕ) → Node
  conj disj : (a b : ℕ) → Node
  neg : (a : ℕ) → Node
  unknown : Node

-- A quantifier over integers, sets or counts: an exists if `some` is true, and a for-all if not.
pub data Quantifier : Type 0 where
  int_q set_q count_q : (some : Bool) → Quantifier

-- Quantifiers stand outermost first; `root` is a node's number.
pub record Claim : Type 0 where
  pub nodes : List Node
  pub quantifiers : List Quantifier
  pub root : ℕ
