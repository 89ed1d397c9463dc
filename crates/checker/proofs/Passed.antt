-- A table is accepted exactly where every test fails, and each failed test is a fact. Assumes nothing.
use mathlib.Core.Path.{◌≡◌, refl, ◌∙◌}
use mathlib.Core.Bool.{Bool, true, false, not, cond, ◌&&◌}
use mathlib.Core.List.{List, [], ◌∷◌}
use Prim.Native.Nat.{ℕ, zero, suc, ◌+◌, ◌*◌, ◌-◌, ◌≤◌, ◌<◌}
use native.Mathlib.Omega.{arith}
use borrow.Author.Tests.{ltb-false, leb-true, eqb-true, not-false}
use lib.Dec.{eqb}
use Rattle.std.proofs.lemmas.Bool.Decides.{nat_tests}
use lib.IntN.{ℤ}
use lib.ListN.{length}
use Rattle.std.specs.Prelude.{is_some, Result, Ok, Err}
use Rattle.checker.specs.declared.Dialect.{Dialect}
use Rattle.checker.specs.declared.Shape.{Shape}
use Rattle.checker.specs.declared.refusals.Refusal.{Refusal}
use Rattle.checker.specs.Kinds.{range_of}
use Rattle.checker.specs.Words.{word_at, nodes_in, quantifiers_in, mark}
use Rattle.checker.specs.Search.{count}
use Rattle.checker.specs.Dialect.{most_nodes, most_quantifiers, most_sets, takes_kind, takes_quantifier}
use Rattle.checker.specs.Table.{Table, node_good, bad_node, root_good, bad_quantifier, binds_set, one_too_many}
use Rattle.checker.specs.Check.{Test, verdict, quantifier_tests, node_tests, shape_tests, check_as, table_at, shape_of}
use Rattle.checker.proofs.Search.{first_none, first_all, count_mono, count_yes}
use Rattle.checker.proofs.Verdict.{shape_passes, parts_pass}
use Rattle.std.proofs.lemmas.Bool.{and_parts}

-- A table that obeys the rules, and words that hold one.
pub record GoodTable (d : Dialect) (t : Table) : Type 0 where
  pub few_sets : count (binds_set t) t.quantifiers ≤ most_sets d
  pub quantifier_taken_lem : (i : ℕ) → i < t.quantifiers → takes_quantifier d (t.quantifier i) ≡ true
  pub quantifier_known : (i : ℕ) → i < t.quantifiers → is_some (range_of (t.quantifier i)) ≡ true
  pub kind_taken : (i : ℕ) → i < t.nodes → takes_kind d (t.kind i) ≡ true
  pub node_good_lem : (i : ℕ) → i < t.nodes → node_good t i ≡ true
  pub root_good_lem : root_good t ≡ true

pub record Good (d : Dialect) (ws : List ℤ) (n q : ℕ) : Type 0 where
  pub marked : word_at ws (length ws - 1) ≡ mark
  pub nodes_are : n ≡ nodes_in ws
  pub quantifiers_are : q ≡ quantifiers_in ws
  pub some_nodes : 1 ≤ n
  pub few_nodes : n ≤ most_nodes d
  pub few_quantifiers : q ≤ most_quantifiers d
  pub sized : length ws ≡ 3 * n + q + 4
  pub table : GoodTable d (table_at ws n q)

-- ---- accepted, so good

abbrev Failed : List Test → Type 0
Failed [] = Unit {0}
Failed (t ∷ ts) = (t.holds ≡ false) × Failed ts

passed : (ts : List Test) (ok : Result Shape Refusal) (s : Shape) → verdict ts ok ≡ Ok s → Failed ts × (ok ≡ Ok s)
unfolding verdict
passed [] ok s e = (tt, e)
passed (t ∷ ts) ok s e = go t.holds refl e (passed ts ok s)
  where
    go : (b : Bool) → t.holds ≡ b → cond b (Err t.gives) (verdict ts ok) ≡ Ok s
        → (verdict ts ok ≡ Ok s → Failed ts × (ok ≡ Ok s)) → ((t.holds ≡ false) × Failed ts) × (ok ≡ Ok s)
    go true p f r = let z : ◌≡◌ {A = ℕ} 0 1 = cc in absurd (omega arith)
    go false p f r = ((p, (r f).0), (r f).1)

-- no quantifier is one too many: the sets below any index are within the limit
few : (limit : ℕ) (t : Table) (n : ℕ) → ((i : ℕ) → i < n → one_too_many limit t i ≡ false) → count (binds_set t) n ≤ limit
unfolding count
few limit t zero h = omega arith
few limit t (suc n) h = grind (arith, nat_tests, few limit t n, h n)

good_table : (d : Dialect) (t : Table) (base width root : ℕ) → Failed (quantifier_tests d t base) → Failed (node_tests d t width root) → GoodTable d t
good_table d t base width root f g =
    let quantifier : (i : ℕ) → i < t.quantifiers → (takes_quantifier d (t.quantifier i) ≡ true) × (is_some (range_of (t.quantifier i)) ≡ true) =
    λ i h. and_parts _ _ (not-false _ (first_none (bad_quantifier d t) t.quantifiers (ltb-false _ _ f.0) i h)) in
    let node : (i : ℕ) → i < t.nodes → (takes_kind d (t.kind i) ≡ true) × (node_good t i ≡ true) =
    λ i h. and_parts _ _ (not-false _ (first_none (bad_node d t) t.nodes (ltb-false _ _ g.0) i h)) in
    record {
      few_sets = few (most_sets d) t t.quantifiers (first_none (one_too_many (most_sets d) t) t.quantifiers (ltb-false _ _ f.1.0));
      quantifier_taken_lem = λ i h. (quantifier i h).0;
      quantifier_known = λ i h. (quantifier i h).1;
      kind_taken = λ i h. (node i h).0;
      node_good_lem = λ i h. (node i h).1;
      root_good_lem = not-false _ g.1.0;
    }

made_good : (d : Dialect) (ws : List ℤ) (n q : ℕ) → n ≡ nodes_in ws → q ≡ quantifiers_in ws
    → Failed (shape_tests d (length ws) (eqb (word_at ws (length ws - 1)) mark) n q 3) → GoodTable d (table_at ws n q) → Good d ws n q
made_good d ws n q en eq f g =
    let b = and_parts _ _ (not-false _ f.1.1.0) in
    record {
      marked = eqb-true _ mark (not-false _ f.1.0);
      nodes_are = en;
      quantifiers_are = eq;
      some_nodes = leb-true 1 n b.0;
      few_nodes = leb-true n (most_nodes d) b.1;
      few_quantifiers = ltb-false (most_quantifiers d) q f.1.1.1.0;
      sized = eqb-true _ _ (not-false _ f.1.1.1.1.0);
      table = g;
    }

pub accepted_good : (d : Dialect) (ws : List ℤ) (s : Shape) → check_as d ws ≡ Ok s
    → Good d ws (nodes_in ws) (quantifiers_in ws) × (s ≡ shape_of (table_at ws (nodes_in ws) (quantifiers_in ws)))
unfolding check_as verdict
accepted_good d ws s e =
    let n : ℕ = nodes_in ws in
    let q : ℕ = quantifiers_in ws in
    let t : Table = table_at ws n q in
    let f = passed (shape_tests d (length ws) (eqb (word_at ws (length ws - 1)) mark) n q 3) _ s e in
    let g = passed (quantifier_tests d t (3 * n)) _ s f.1 in
    let h = passed (node_tests d t 3 (length ws - 4)) (Ok (shape_of t)) s g.1 in
    (made_good d ws n q refl refl f.0 (good_table d t (3 * n) 3 (length ws - 4) g.0 h.0), cc h.1)

-- ---- good, so accepted

pub under_limit : (limit : ℕ) (t : Table) (n j : ℕ) → count (binds_set t) n ≤ limit → j < n → one_too_many limit t j ≡ false
under_limit limit t n j l h = grind (arith, nat_tests, count_yes, count_mono)

pub good_accepted : (d : Dialect) (ws : List ℤ) (n q : ℕ) → Good d ws n q → check_as d ws ≡ Ok (shape_of (table_at ws n q))
good_accepted d ws n q g =
    let t : Table = table_at ws n q in
    rw (← g.nodes_are, ← g.quantifiers_are) at
    (shape_passes d ws (omega (arith, g.sized)) g.marked (omega (arith, g.some_nodes)) (omega (arith, g.few_nodes)) (omega (arith, g.few_quantifiers)) (omega (arith, g.sized)))
    ∙ parts_pass d t (3 * n) 3 (length ws - 4)
    (first_all (bad_quantifier d t) q (λ j h. passes (g.table.quantifier_taken_lem j h) (g.table.quantifier_known j h)))
    (first_all _ q (λ j h. under_limit (most_sets d) t q j g.table.few_sets h))
    (first_all (bad_node d t) n (λ j h. passes (g.table.kind_taken j h) (g.table.node_good_lem j h)))
    g.table.root_good_lem
  where
    passes : {a b : Bool} → a ≡ true → b ≡ true → not (a && b) ≡ false
    passes e f = rw (e, f)
