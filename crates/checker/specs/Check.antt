-- What the checker answers (01, "Refusal numbers, in the order they are tested", 1 to 7): an ordered list of tests, of which the first that holds
-- decides. The tests are over a dialect, a table of numbers, the words a node takes and the places where things stand, whatever the words are.
-- Assumes nothing.
use Rattle.std.specs.Prelude.{Bool, cond, not, List, [], ◌∷◌, ℕ, ◌+◌, ◌*◌, ◌-◌, ltb, eqb, ℤ, length, Result, Ok, Err}
use Rattle.checker.specs.declared.refusals.Refusal.TheVariants as refused
use Rattle.checker.specs.declared.Dialect.{Dialect}
use Rattle.checker.specs.declared.Dialect.TheVariants.{SetClaims}
use Rattle.checker.specs.declared.refusals.Refusal.{Refusal}
use Rattle.checker.specs.declared.Shape.{Shape}
use Rattle.checker.specs.Search.{first, count}
use Rattle.checker.specs.Kinds.{within}
use Rattle.checker.specs.Words.{word_at, root_in, nodes_in, quantifiers_in, mark}
use Rattle.checker.specs.Dialect.{most_nodes, most_quantifiers, most_sets}
use Rattle.checker.specs.Table.{Table, bad_node, root_good, binds_set, bad_quantifier, one_too_many}

-- ---- the limits of claims over sets

abbrev pub max_nodes : ℕ
max_nodes = most_nodes SetClaims

abbrev pub max_quantifiers : ℕ
max_quantifiers = most_quantifiers SetClaims

abbrev pub max_sets : ℕ
max_sets = most_sets SetClaims

-- ---- tests in order

pub record Test : Type 0 where
  pub holds : Bool
  pub gives : Refusal

abbrev pub test : Bool → Refusal → Test
test b r = record { holds = b; gives = r }

-- the refusal of the first test that holds, and `ok` where none does
unfoldable pub verdict : List Test → Result Shape Refusal → Result Shape Refusal
verdict [] ok = ok
verdict (t ∷ ts) ok = cond t.holds (Err t.gives) (verdict ts ok)

-- 1 to 3, of l words whose last is right where `marked`, for n nodes of `width` words each and q quantifiers
abbrev pub shape_tests : Dialect → ℕ → Bool → ℕ → ℕ → ℕ → List Test
shape_tests d l marked n q width =
    test (ltb l 4) refused.Unmarked
    ∷ test (not marked) refused.Unmarked
    ∷ test (not (within 1 (most_nodes d) n)) (refused.Count (l - 3))
    ∷ test (ltb (most_quantifiers d) q) (refused.Count (l - 2))
    ∷ test (not (eqb l (width * n + q + 4))) refused.Length
    ∷ []

-- 4 and 5; the quantifiers stand from word `base` on
abbrev pub quantifier_tests : Dialect → Table → ℕ → List Test
quantifier_tests d t base =
    test (ltb (first (bad_quantifier d t) t.quantifiers) t.quantifiers) (refused.UnknownQuantifier (base + first (bad_quantifier d t) t.quantifiers))
    ∷ test (ltb (first (one_too_many (most_sets d) t) t.quantifiers) t.quantifiers) (refused.TooManySets (base + first (one_too_many (most_sets d) t) t.quantifiers))
    ∷ []

-- 6, of node i
abbrev pub node_refusal : ℕ → ℕ → Refusal
node_refusal i width = refused.BadNode (width * i)

-- 6 and 7; a node is `width` words, and the root's number stands at word `rootPlace`
abbrev pub node_tests : Dialect → Table → ℕ → ℕ → List Test
node_tests d t width rootPlace =
    record { holds = ltb (first (bad_node d t) t.nodes) t.nodes; gives = node_refusal (first (bad_node d t) t.nodes) width }
    ∷ test (not (root_good t)) (refused.BadRoot rootPlace)
    ∷ []

-- what is said of an accepted table
abbrev pub shape_of : Table → Shape
shape_of t = record { nodes = t.nodes; quantifiers = t.quantifiers; sets = count (binds_set t) t.quantifiers; root = t.root }

-- 4 to 7, and then acceptance. Between 5 and 6 another stored form may make further tests, `extra`; the words of 01 have none.
abbrev pub parts_of : Dialect → Table → ℕ → ℕ → ℕ → List Test → Result Shape Refusal
parts_of d t base width rootPlace extra =
    verdict (quantifier_tests d t base) (verdict extra (verdict (node_tests d t width rootPlace) (Ok (shape_of t))))

-- ---- the words of 01

-- the kind of node i
abbrev pub kind_in : List ℤ → ℕ → ℕ
kind_in ws i = word_at ws (3 * i)

-- the kind of quantifier i, where there are n nodes
abbrev pub quantifier_kind : List ℤ → ℕ → ℕ → ℕ
quantifier_kind ws n i = word_at ws (3 * n + i)

-- the table of n nodes and q quantifiers in ws
abbrev pub table_at : List ℤ → ℕ → ℕ → Table
table_at ws n q =
    record {
      nodes = n;
      quantifiers = q;
      root = root_in ws;
      kind = kind_in ws;
      a = λ i. word_at ws (3 * i + 1);
      b = λ i. word_at ws (3 * i + 2);
      quantifier = quantifier_kind ws n;
    }

-- what follows 1 to 3
abbrev pub rest_of : Dialect → List ℤ → ℕ → ℕ → Result Shape Refusal
rest_of d ws n q = parts_of d (table_at ws n q) (3 * n) 3 (length ws - 4) []

-- What the checker answers for the words ws, in a dialect.
unfoldable pub check_as : Dialect → List ℤ → Result Shape Refusal
check_as d ws =
    verdict (shape_tests d (length ws) (eqb (word_at ws (length ws - 1)) mark) (nodes_in ws) (quantifiers_in ws) 3)
    (rest_of d ws (nodes_in ws) (quantifiers_in ws))

-- What it answers for claims over sets.
unfoldable pub check_of : List ℤ → Result Shape Refusal
unfolding check_as
check_of ws = check_as SetClaims ws
