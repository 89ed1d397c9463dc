-- The sentence that a claim without sets becomes, and the commands that ask a solver whether it fails at some size.
-- Assumes nothing.
use Rattle.std.specs.Prelude.{◌≡◌, Bool, List, [], ◌∷◌, ℕ, zero, suc, ℤ, pos, negsuc}
use Rattle.checker.specs.declared.Dialect.TheVariants.{Emitted}
use Rattle.checker.specs.Claim.{Node, set_var, empty, whole, union, inter, compl, num_var, const, maxc, sum, diff, multiple, card, equal, less, divided, set_equal, subset, conj, disj, neg, unknown, Quantifier, int_q, set_q, count_q, Claim}
use Rattle.checker.specs.Words.{fields_of}
use Rattle.checker.specs.Sorts.{sets}
use Rattle.checker.specs.Dialect.{takes_kind}
use Rattle.checker.specs.Accepted.{All}
use Rattle.checker.specs.Meaning.{num}
use Rattle.sentence.specs.Smt.{the_size, variable, result, plus, subtract, times, equals, below, at_least, both, either, Expr, named, numeral, untrue, minus, opposite, modulo, two, Sentence, says, let_in, quantify, guarded, denied, Command, set_logic, declare, require, assert, check_sat, Env, bind, nothing}

-- ---- claims without sets

-- The kinds that have a sentence are those of emitted claims.
abbrev pub plain : Node → Bool
plain n = takes_kind Emitted (fields_of n).kind

abbrev pub AllPlain : List Node → Type 0
AllPlain ns = All plain ns

pub record Plain (c : Claim) : Type 0 where
  pub nodes : AllPlain c.nodes
  pub quantifiers : sets c.quantifiers ≡ 0

-- ---- nodes

-- what the let of node i binds
abbrev pub node : ℕ → Expr
node i = named (result i)

-- SMT-LIB has numerals from 0 up, and a minus.
abbrev pub whole_number : ℤ → Expr
whole_number (pos k) = numeral k
whole_number (negsuc k) = minus (numeral (suc k))

-- "C divides T", by the absolute value of C: the side on which the 0 stands keeps C's sign. With C = 0 it is false (01).
abbrev pub divisible : ℤ → Expr → Expr
divisible (pos zero) e = two both untrue (two equals e (numeral 0))
divisible (pos (suc k)) e = two equals (modulo e (numeral (suc k))) (numeral 0)
divisible (negsuc k) e = two equals (numeral 0) (modulo e (numeral (suc k)))

-- The expression of a node. One that is not plain has none of its own.
abbrev pub expr_of : Node → Expr
expr_of (set_var q) = untrue
expr_of empty = untrue
expr_of whole = untrue
expr_of (union a b) = untrue
expr_of (inter a b) = untrue
expr_of (compl a) = untrue
expr_of (num_var q) = named (variable q)
expr_of (const c) = whole_number c
expr_of maxc = named the_size
expr_of (sum a b) = two plus (node a) (node b)
expr_of (diff a b) = two subtract (node a) (node b)
expr_of (multiple c b) = two times (whole_number c) (node b)
expr_of (card a) = untrue
expr_of (equal a b) = two equals (node a) (node b)
expr_of (less a b) = two below (node a) (node b)
expr_of (divided c b) = divisible c (node b)
expr_of (set_equal a b) = untrue
expr_of (subset a b) = untrue
expr_of (conj a b) = two both (node a) (node b)
expr_of (disj a b) = two either (node a) (node b)
expr_of (neg a) = opposite (node a)
expr_of unknown = untrue

-- ---- the claim

-- e is at least 0
abbrev pub not_negative : Expr → Expr
not_negative e = two at_least e (numeral 0)

-- each of the nodes, from number i on, bound by a let
unfoldable pub lets : ℕ → List Node → Sentence → Sentence
lets i [] s = s
lets i (n ∷ ns) s = let_in (result i) (expr_of n) (lets (suc i) ns s)

-- Each of the quantifiers, from number i on; a count is at least 0. A set quantifier, which no plain claim has, is passed over.
unfoldable pub closed : ℕ → List Quantifier → Sentence → Sentence
closed i [] s = s
closed i (int_q some ∷ qs) s = quantify some (variable i) (closed (suc i) qs s)
closed i (set_q some ∷ qs) s = closed (suc i) qs s
closed i (count_q some ∷ qs) s = quantify some (variable i) (guarded some (not_negative (named (variable i))) (closed (suc i) qs s))

unfoldable pub sentence_of : Claim → Sentence
sentence_of c = closed 0 c.quantifiers (lets 0 c.nodes (says (node c.root)))

-- The claim is asserted to fail, so that "unsat" says that it fails at no size.
unfoldable pub asserted : Claim → Sentence
asserted c = denied (sentence_of c)

unfoldable pub commands : Claim → List Command
commands c = set_logic ∷ declare the_size ∷ require (not_negative (named the_size)) ∷ assert (asserted c) ∷ check_sat ∷ []

-- MAXC is N, and no other name stands for anything
abbrev pub sized : ℕ → Env
sized N = bind nothing the_size (num (pos N))
