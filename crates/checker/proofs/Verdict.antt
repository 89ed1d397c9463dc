-- The tests in their order: what `check_as` and `parts_of` are once the tests before have failed. Assumes nothing.
use mathlib.Core.Path.{◌≡◌}
use mathlib.Core.Bool.{true}
use mathlib.Core.List.{List, []}
use Prim.Native.Nat.{ℕ, ◌+◌, ◌*◌, ◌-◌, ◌≤◌, ◌<◌}
use native.Mathlib.Omega.{arith}
use borrow.Author.Tests.{le-ltb}
use lib.IntN.{ℤ}
use lib.ListN.{length}
use Rattle.std.proofs.lemmas.Bool.Decides.{nat_tests}
use Rattle.std.specs.Prelude.{Result, Ok, Err}
use Rattle.checker.specs.declared.Dialect.{Dialect}
use Rattle.checker.specs.declared.refusals.Refusal.{Refusal}
use Rattle.checker.specs.declared.refusals.Refusal.TheVariants as refused
use Rattle.checker.specs.declared.Shape.{Shape}
use Rattle.checker.specs.Search.{first}
use Rattle.checker.specs.Words.{word_at, nodes_in, quantifiers_in, mark}
use Rattle.checker.specs.Dialect.{most_nodes, most_quantifiers, most_sets}
use Rattle.checker.specs.Table.{Table, bad_node, root_good, bad_quantifier, one_too_many}
use Rattle.checker.proofs.Limits.{nodes_most, quantifiers_most}
use Rattle.checker.proofs.Search.{found_some, found_none}
use Rattle.checker.specs.Check.{Test, verdict, parts_of, shape_of, rest_of, check_as}

-- ---- refusals 1 to 3

module _ (d : Dialect) (ws : List ℤ) (long : 4 ≤ length ws) (marked : word_at ws (length ws - 1) ≡ mark) where
  pub too_many_nodes : most_nodes d < nodes_in ws → check_as d ws ≡ Err (refused.Count (length ws - 3))
  unfolding check_as verdict
  too_many_nodes h = grind (arith, nat_tests)

  module _ (some : 1 ≤ nodes_in ws) (few : nodes_in ws ≤ most_nodes d) where
    pub too_many_quantifiers : most_quantifiers d < quantifiers_in ws → check_as d ws ≡ Err (refused.Count (length ws - 2))
    unfolding check_as verdict
    too_many_quantifiers h = grind (arith, nat_tests)

    pub shape_passes : quantifiers_in ws ≤ most_quantifiers d → length ws ≡ 3 * nodes_in ws + quantifiers_in ws + 4
        → check_as d ws ≡ rest_of d ws (nodes_in ws) (quantifiers_in ws)
    unfolding check_as verdict
    shape_passes h l = grind (arith, nat_tests)

-- ---- refusals 4 to 7

pub parts_pass : (d : Dialect) (t : Table) (base width root : ℕ) → t.quantifiers ≤ first (bad_quantifier d t) t.quantifiers
    → t.quantifiers ≤ first (one_too_many (most_sets d) t) t.quantifiers → t.nodes ≤ first (bad_node d t) t.nodes → root_good t ≡ true
    → parts_of d t base width root [] ≡ Ok (shape_of t)
unfolding verdict
parts_pass d t base width root e4 e5 e6 e7 = grind (arith, nat_tests)

-- a form with tests of its own between the quantifiers' and the nodes'
pub at_extra : (d : Dialect) (t : Table) (base width root : ℕ) (extra : List Test) {r : Result Shape Refusal}
    → t.quantifiers ≤ first (bad_quantifier d t) t.quantifiers → t.quantifiers ≤ first (one_too_many (most_sets d) t) t.quantifiers
    → ((ok : Result Shape Refusal) → r ≡ verdict extra ok) → r ≡ parts_of d t base width root extra
unfolding verdict
at_extra d t base width root extra e4 e5 h = rw (le-ltb _ _ e4, le-ltb _ _ e5) (h _)

-- for the code, which makes the tests one by one
pub ruleset in_order = (nat_tests, nodes_most, quantifiers_most, found_some, found_none)
