-- The limit of sets is felt by no claim within it (#113): a table with no more set quantifiers than `limit` is answered as a checker with that
-- limit answers it, be the limit of the day higher. Of the check of claims over sets the limit stands in test 5 alone; and the definitions of what
-- an accepted claim becomes, `emission` and `ruling`, take any number of sets. Assumes nothing.
use mathlib.Core.Path.{◌≡◌, refl, sym, ◌∙◌}
use mathlib.Core.Bool.{false}
use mathlib.Core.List.{List, [], ◌∷◌}
use Prim.Native.Nat.{ℕ, ◌+◌, ◌*◌, ◌-◌, ◌≤◌}
use native.Mathlib.Omega.{arith}
use lib.Dec.{ltb, eqb}
use lib.IntN.{ℤ}
use lib.ListN.{length}
use borrow.Author.Tests.{le-ltb}
use Rattle.std.specs.Prelude.{Result, Ok}
use Rattle.checker.specs.declared.Shape.{Shape}
use Rattle.checker.specs.declared.refusals.Refusal.{Refusal}
use Rattle.checker.specs.declared.refusals.Refusal.TheVariants as refused
use Rattle.checker.specs.declared.Dialect.TheVariants.{SetClaims}
use Rattle.checker.specs.Search.{first, count}
use Rattle.checker.specs.Words.{word_at, nodes_in, quantifiers_in, mark}
use Rattle.checker.specs.Table.{Table, bad_quantifier, binds_set, one_too_many}
use Rattle.checker.specs.Check.{max_sets, test, verdict, shape_tests, node_tests, shape_of, table_at, check_as, check_of}
use Rattle.checker.proofs.Search.{first_all}
use Rattle.checker.proofs.Passed.{under_limit}

-- ---- the check with any limit of sets

-- the table in the words
abbrev pub table_in : List ℤ → Table
table_in ws = table_at ws (nodes_in ws) (quantifiers_in ws)

-- how many set quantifiers it has
unfoldable pub sets_in : List ℤ → ℕ
sets_in ws = count (binds_set (table_in ws)) (quantifiers_in ws)

-- 1 to 7 in order, as `check_of` has them, but for the limit in test 5
unfoldable pub check_up_to : ℕ → List ℤ → Result Shape Refusal
check_up_to limit ws =
    verdict (shape_tests SetClaims (length ws) (eqb (word_at ws (length ws - 1)) mark) n q 3)
    (verdict
    (test (ltb (first (bad_quantifier SetClaims t) q) q) (refused.UnknownQuantifier (3 * n + first (bad_quantifier SetClaims t) q))
    ∷ test (ltb (first (one_too_many limit t) q) q) (refused.TooManySets (3 * n + first (one_too_many limit t) q))
    ∷ [])
    (verdict (node_tests SetClaims t 3 (length ws - 4)) (Ok (shape_of t))))
  where
    n : ℕ
    n = nodes_in ws

    q : ℕ
    q = quantifiers_in ws

    t : Table
    t = table_in ws

pub with_the_limit : (ws : List ℤ) → check_up_to max_sets ws ≡ check_of ws
unfolding check_up_to check_of check_as verdict
with_the_limit ws = refl

-- ---- no claim within a limit feels it

module _ (t : Table) (limit : ℕ) (few : count (binds_set t) t.quantifiers ≤ limit) where
  test_5_passes : ltb (first (one_too_many limit t) t.quantifiers) t.quantifiers ≡ false
  test_5_passes = le-ltb _ _ (first_all (one_too_many limit t) t.quantifiers (λ i h. under_limit limit t t.quantifiers i few h))

module _ (ws : List ℤ) where
  pub alike : (limit higher : ℕ) → sets_in ws ≤ limit → limit ≤ higher → check_up_to limit ws ≡ check_up_to higher ws
  unfolding check_up_to sets_in verdict
  alike limit higher few up = rw (test_5_passes (table_in ws) limit few, test_5_passes (table_in ws) higher (omega arith)) refl

  -- with six sets or fewer, what a limit of six gave
  pub six_sets_as_they_were : sets_in ws ≤ 6 → check_of ws ≡ check_up_to 6 ws
  six_sets_as_they_were few = sym (alike 6 max_sets few (omega arith) ∙ with_the_limit ws)
