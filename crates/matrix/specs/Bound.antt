-- The bound of a term at size N (01, "Refusal numbers"), which none of its values exceeds in absolute value, and the first node whose bound is
-- too large (refusal 11). Assumes nothing.
use Rattle.std.specs.Prelude.{Bool, List, [], ◌∷◌, ◌++◌, ℕ, ◌+◌, ◌*◌, ltb, nat_abs, length, get_or}
use Rattle.checker.specs.Claim.{Node, set_var, empty, whole, union, inter, compl, num_var, const, maxc, sum, diff, multiple, card, equal, less, divided, set_equal, subset, conj, disj, neg, unknown, Claim}
use Rattle.checker.specs.Search.{first}

abbrev pub max_bound : ℕ
max_bound = 1000000000

-- A term's bound, from the bounds `bs` of the earlier nodes. Sets and formulas have none; nor has a number variable, which the decider refuses.
unfoldable pub bound_of : ℕ → List ℕ → Node → ℕ
bound_of N bs (set_var q) = 0
bound_of N bs empty = 0
bound_of N bs whole = 0
bound_of N bs (union a b) = 0
bound_of N bs (inter a b) = 0
bound_of N bs (compl a) = 0
bound_of N bs (num_var q) = 0
bound_of N bs (const c) = nat_abs c
bound_of N bs maxc = N
bound_of N bs (sum a b) = get_or bs a 0 + get_or bs b 0
bound_of N bs (diff a b) = get_or bs a 0 + get_or bs b 0
bound_of N bs (multiple c b) = nat_abs c * get_or bs b 0
bound_of N bs (card a) = N
bound_of N bs (equal a b) = 0
bound_of N bs (less a b) = 0
bound_of N bs (divided c b) = 0
bound_of N bs (set_equal a b) = 0
bound_of N bs (subset a b) = 0
bound_of N bs (conj a b) = 0
bound_of N bs (disj a b) = 0
bound_of N bs (neg a) = 0
bound_of N bs unknown = 0

-- The bounds of nodes in order, after the nodes that have the bounds `bs`.
unfoldable pub bounds_after : ℕ → List ℕ → List Node → List ℕ
bounds_after N bs [] = bs
bounds_after N bs (n ∷ ns) = bounds_after N (bs ++ bound_of N bs n ∷ []) ns

abbrev pub bounds : ℕ → List Node → List ℕ
bounds N ns = bounds_after N [] ns

-- node i has a bound that is too large at size N
unfoldable pub over_bound : ℕ → Claim → ℕ → Bool
over_bound N c i = ltb max_bound (get_or (bounds N c.nodes) i 0)

-- the first such node, or the number of nodes
abbrev pub first_over : ℕ → Claim → ℕ
first_over N c = first (over_bound N c) (length c.nodes)
