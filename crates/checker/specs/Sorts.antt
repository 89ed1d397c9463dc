-- Well-sorted claims (01, the sort table): children are earlier nodes of the right sort, quantifiers are of the right kind, the root is a formula.
-- Assumes nothing.
use Rattle.std.specs.Prelude.{◌≡◌, Bool, true, false, List, [], ◌∷◌, ◌++◌, ℕ, suc, ◌<◌, length, get_or, Option, Some, None}
use Rattle.checker.specs.declared.Sort.{Sort}
use Rattle.checker.specs.declared.Sort.TheVariants.{ASet, ATerm, AFormula}
use Rattle.checker.specs.Claim.{Node, set_var, empty, whole, union, inter, compl, num_var, const, maxc, sum, diff, multiple, card, equal, less, divided, set_equal, subset, conj, disj, neg, unknown, Quantifier, int_q, set_q, count_q, Claim}

abbrev pub sort : Node → Option Sort
sort (set_var q) = Some ASet
sort empty = Some ASet
sort whole = Some ASet
sort (union a b) = Some ASet
sort (inter a b) = Some ASet
sort (compl a) = Some ASet
sort (num_var q) = Some ATerm
sort (const c) = Some ATerm
sort maxc = Some ATerm
sort (sum a b) = Some ATerm
sort (diff a b) = Some ATerm
sort (multiple c b) = Some ATerm
sort (card a) = Some ATerm
sort (equal a b) = Some AFormula
sort (less a b) = Some AFormula
sort (divided c b) = Some AFormula
sort (set_equal a b) = Some AFormula
sort (subset a b) = Some AFormula
sort (conj a b) = Some AFormula
sort (disj a b) = Some AFormula
sort (neg a) = Some AFormula
sort unknown = None

-- a is the number of one of the nodes, and that is of the sort s
abbrev pub Is : Sort → List Node → ℕ → Type 0
Is s nodes a = (a < length nodes) × (sort (get_or nodes a unknown) ≡ Some s)

abbrev pub is_set_q : Quantifier → Bool
is_set_q (int_q some) = false
is_set_q (set_q some) = true
is_set_q (count_q some) = false

-- q is the number of one of the quantifiers, and that binds a set (true) or a number (false)
abbrev pub Binds : Bool → List Quantifier → ℕ → Type 0
Binds b qs q = (q < length qs) × (is_set_q (get_or qs q (int_q true)) ≡ b)

-- A node may stand after the nodes `done`, under the quantifiers qs.
abbrev pub Fits : List Quantifier → List Node → Node → Type 0
Fits qs done (set_var q) = Binds true qs q
Fits qs done empty = Unit {0}
Fits qs done whole = Unit {0}
Fits qs done (union a b) = Is ASet done a × Is ASet done b
Fits qs done (inter a b) = Is ASet done a × Is ASet done b
Fits qs done (compl a) = Is ASet done a
Fits qs done (num_var q) = Binds false qs q
Fits qs done (const c) = Unit {0}
Fits qs done maxc = Unit {0}
Fits qs done (sum a b) = Is ATerm done a × Is ATerm done b
Fits qs done (diff a b) = Is ATerm done a × Is ATerm done b
Fits qs done (multiple c b) = Is ATerm done b
Fits qs done (card a) = Is ASet done a
Fits qs done (equal a b) = Is ATerm done a × Is ATerm done b
Fits qs done (less a b) = Is ATerm done a × Is ATerm done b
Fits qs done (divided c b) = Is ATerm done b
Fits qs done (set_equal a b) = Is ASet done a × Is ASet done b
Fits qs done (subset a b) = Is ASet done a × Is ASet done b
Fits qs done (conj a b) = Is AFormula done a × Is AFormula done b
Fits qs done (disj a b) = Is AFormula done a × Is AFormula done b
Fits qs done (neg a) = Is AFormula done a
Fits qs done unknown = ⊥

abbrev pub AllFit : List Quantifier → List Node → List Node → Type 0
AllFit qs done [] = Unit {0}
AllFit qs done (n ∷ ns) = Fits qs done n × AllFit qs (done ++ n ∷ []) ns

abbrev pub WellSorted : Claim → Type 0
WellSorted c = AllFit c.quantifiers [] c.nodes × Is AFormula c.nodes c.root

-- how many of the quantifiers bind sets
unfoldable pub sets : List Quantifier → ℕ
sets [] = 0
sets (int_q some ∷ qs) = sets qs
sets (set_q some ∷ qs) = suc (sets qs)
sets (count_q some ∷ qs) = sets qs
