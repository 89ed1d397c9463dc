-- A claim as a table of numbers, however it is stored, and the rules on its quantifiers, nodes and root (01, the sort table and refusals 4 to 7), in
-- a dialect.
-- Assumes nothing.
use Rattle.std.specs.Prelude.{Bool, true, false, cond, not, ◌&&◌, ℕ, ltb, eqb, Option, Some, None, is_some, Result, Ok, Err}
use Rattle.checker.specs.declared.Dialect.{Dialect}
use Rattle.checker.specs.declared.Sort.{Sort}
use Rattle.checker.specs.declared.Sort.TheVariants.{AFormula}
use Rattle.checker.specs.declared.Range.{Range}
use Rattle.checker.specs.declared.Range.TheVariants.{Sets}
use Rattle.checker.specs.declared.Need.{Need}
use Rattle.checker.specs.declared.Need.TheVariants.{Unused, Word, Child, Name}
use Rattle.checker.specs.declared.Row.{Row}
use Rattle.checker.specs.Search.{first, count}
use Rattle.checker.specs.Kinds.{row_of, sort_of, range_of, is_sort, is_range}
use Rattle.checker.specs.Dialect.{takes_kind, takes_quantifier}

-- What stands at each node and quantifier, negative words being `no_number`.
pub record Table : Type 0 where
  pub nodes : ℕ
  pub quantifiers : ℕ
  pub root : ℕ
  pub kind : ℕ → ℕ
  pub a : ℕ → ℕ
  pub b : ℕ → ℕ
  pub quantifier : ℕ → ℕ

-- the sort of v as a child of node i: none unless v is smaller than i
abbrev pub child_sort : (ℕ → ℕ) → ℕ → ℕ → Option Sort
child_sort kind i v = cond (ltb v i) (sort_of (kind v)) None

-- what v as the number of one of q quantifiers ranges over: nothing unless there is such a quantifier
abbrev pub name_range : (ℕ → ℕ) → ℕ → ℕ → Option Range
name_range quantifier q v = cond (ltb v q) (range_of (quantifier v)) None

-- v may stand where `need` is required, v being of the sort s as a child and ranging over r as a quantifier's number
abbrev pub serves : Need → ℕ → Option Sort → Option Range → Bool
serves Unused v s r = eqb v 0
serves Word v s r = true
serves (Child k) v s r = is_sort k s
serves (Name k) v s r = is_range k r

abbrev pub field_good : Table → ℕ → Need → ℕ → Bool
field_good t i need v = serves need v (child_sort t.kind i v) (name_range t.quantifier t.quantifiers v)

-- both fields of node i are as its row requires
abbrev pub obeys : Table → ℕ → Option Row → Bool
obeys t i None = false
obeys t i (Some row) = field_good t i row.a (t.a i) && field_good t i row.b (t.b i)

abbrev pub node_good : Table → ℕ → Bool
node_good t i = obeys t i (row_of (t.kind i))

-- node i is of a kind that the dialect takes, and good
abbrev pub node_taken : Dialect → Table → ℕ → Bool
node_taken d t i = takes_kind d (t.kind i) && node_good t i

abbrev pub bad_node : Dialect → Table → ℕ → Bool
bad_node d t i = not (node_taken d t i)

abbrev pub root_good : Table → Bool
root_good t = is_sort AFormula (child_sort t.kind t.nodes t.root)

-- a quantifier's kind is one that the dialect takes, and known
abbrev pub quantifier_taken : Dialect → ℕ → Bool
quantifier_taken d kind = takes_quantifier d kind && is_some (range_of kind)

abbrev pub bad_quantifier : Dialect → Table → ℕ → Bool
bad_quantifier d t i = not (quantifier_taken d (t.quantifier i))

abbrev pub binds_set : Table → ℕ → Bool
binds_set t i = is_range Sets (range_of (t.quantifier i))

-- quantifier i is a set quantifier, and `limit` set quantifiers stand before it
abbrev pub one_too_many : ℕ → Table → ℕ → Bool
one_too_many limit t i = binds_set t i && eqb (count (binds_set t) i) limit

-- how many quantifiers bind sets, or the first that is one more than `limit`
abbrev pub sets_within : ℕ → Table → Result ℕ ℕ
sets_within limit t =
    cond (ltb (first (one_too_many limit t) t.quantifiers) t.quantifiers) (Err (first (one_too_many limit t) t.quantifiers)) (Ok (count (binds_set t) t.quantifiers))
