-- How a node's number is worked out from the numbers of its children. `proofs/Shown.antt` shows that it is the node's value.
-- Assumes nothing.
use Rattle.std.specs.Prelude.{Bool, not, ◌&&◌, ◌||◌, List, [], ◌∷◌, ℕ, eqb, ℤ, pos, ◌+ℤ◌, ◌-ℤ◌, ◌*ℤ◌}
use Rattle.std.specs.Int.Signed.{lt_z}
use Rattle.checker.specs.Claim.{Node, set_var, empty, whole, union, inter, compl, num_var, const, maxc, sum, diff, multiple, card, equal, less, divided, set_equal, subset, conj, disj, neg, unknown}
use Rattle.checker.specs.Words.{word}
use Rattle.checker.specs.Meaning.{divides, eq_z, bit}

-- The nodes whose numbers a node's own is worked out from.
unfoldable pub children : Node → List ℕ
children (set_var q) = []
children empty = []
children whole = []
children (union a b) = []
children (inter a b) = []
children (compl a) = []
children (num_var q) = []
children (const c) = []
children maxc = []
children (sum a b) = a ∷ b ∷ []
children (diff a b) = a ∷ b ∷ []
children (multiple c b) = b ∷ []
children (card a) = []
children (equal a b) = a ∷ b ∷ []
children (less a b) = a ∷ b ∷ []
children (divided c b) = b ∷ []
children (set_equal a b) = []
children (subset a b) = []
children (conj a b) = a ∷ b ∷ []
children (disj a b) = a ∷ b ∷ []
children (neg a) = a ∷ []
children unknown = []

-- P holds of each of them.
abbrev pub Every : (ℕ → Type 0) → List ℕ → Type 0
Every P [] = Unit {0}
Every P (c ∷ cs) = P c × Every P cs

-- a truth as a number: 1 for true
abbrev pub bit_z : Bool → ℤ
bit_z t = pos (bit t)

-- the number says true
abbrev pub says : List ℤ → ℕ → Bool
says xs i = eq_z (word xs i) (pos 1)

-- A node's number at size N from the earlier numbers `xs`, where p ports are in the regions that its pattern covers. Sets have none.
unfoldable pub work : ℕ → ℕ → List ℤ → Node → ℤ
work N p xs (set_var q) = pos 0
work N p xs empty = pos 0
work N p xs whole = pos 0
work N p xs (union a b) = pos 0
work N p xs (inter a b) = pos 0
work N p xs (compl a) = pos 0
work N p xs (num_var q) = pos 0
work N p xs (const c) = c
work N p xs maxc = pos N
work N p xs (sum a b) = word xs a +ℤ word xs b
work N p xs (diff a b) = word xs a -ℤ word xs b
work N p xs (multiple c b) = c *ℤ word xs b
work N p xs (card a) = pos p
work N p xs (equal a b) = bit_z (eq_z (word xs a) (word xs b))
work N p xs (less a b) = bit_z (lt_z (word xs a) (word xs b))
work N p xs (divided c b) = bit_z (divides c (word xs b))
work N p xs (set_equal a b) = bit_z (eqb p 0)
work N p xs (subset a b) = bit_z (eqb p 0)
work N p xs (conj a b) = bit_z (says xs a && says xs b)
work N p xs (disj a b) = bit_z (says xs a || says xs b)
work N p xs (neg a) = bit_z (not (says xs a))
work N p xs unknown = pos 0
