-- One node and its row: three words that the row of their kind lets pass are a node that fits, and the words of a node that fits pass.
-- Assumes nothing.
use mathlib.Core.Path.{◌≡◌, refl, sym, ◌∙◌, ap, subst}
use mathlib.Core.Bool.{Bool, true, false, cond, false≢true}
use mathlib.Core.List.{List, [], ◌∷◌}
use Prim.Native.Nat.{ℕ, ◌≤◌, ◌<◌}
use native.Mathlib.Omega.{arith}
use borrow.Author.Tests.{eqb-true, lt-ltb, ltb-true}
use lib.Dec.{eqb, ltb}
use lib.IntN.{ℤ, pos, negsuc}
use lib.ListN.{length, get_or}
use Rattle.std.specs.Prelude.{Option, Some, None}
use Rattle.checker.specs.declared.Sort.{Sort}
use Rattle.checker.specs.declared.Sort.TheVariants.{ASet, ATerm, AFormula}
use Rattle.checker.specs.declared.Range.{Range}
use Rattle.checker.specs.declared.Range.TheVariants.{Sets, Numbers}
use Rattle.checker.specs.declared.Need.{Need}
use Rattle.checker.specs.declared.Need.TheVariants.{Unused, Child, Name}
use Rattle.checker.specs.declared.Row.{Row}
use Rattle.checker.specs.Claim.{Node, set_var, empty, whole, union, inter, compl, num_var, const, maxc, sum, diff, multiple, card, equal, less, divided, set_equal, subset, conj, disj, neg, unknown, Quantifier, int_q}
use Rattle.checker.specs.Kinds.{no_number, number, Entry, sort_table, entry_in, row_of, node_of, sort_of, range_of, is_sort, is_range}
use Rattle.checker.specs.Words.{fields_of, node_words}
use Rattle.checker.specs.Sorts.{sort, Is, is_set_q, Binds, Fits}
use Rattle.checker.specs.Table.{child_sort, name_range, serves}

-- ---- sorts and ranges by their tests

none_is : (k : Sort) → is_sort k None ≡ false
none_is ASet = refl
none_is ATerm = refl
none_is AFormula = refl

pub sort_is : (k : Sort) (s : Option Sort) → is_sort k s ≡ true → s ≡ Some k
sort_is ASet None e = absurd (false≢true e)
sort_is ASet (Some ASet) e = refl
sort_is ASet (Some ATerm) e = absurd (false≢true e)
sort_is ASet (Some AFormula) e = absurd (false≢true e)
sort_is ATerm None e = absurd (false≢true e)
sort_is ATerm (Some ASet) e = absurd (false≢true e)
sort_is ATerm (Some ATerm) e = refl
sort_is ATerm (Some AFormula) e = absurd (false≢true e)
sort_is AFormula None e = absurd (false≢true e)
sort_is AFormula (Some ASet) e = absurd (false≢true e)
sort_is AFormula (Some ATerm) e = absurd (false≢true e)
sort_is AFormula (Some AFormula) e = refl

is_its_sort : (k : Sort) → is_sort k (Some k) ≡ true
is_its_sort ASet = refl
is_its_sort ATerm = refl
is_its_sort AFormula = refl

-- what a quantifier ranges over
abbrev pub range : Bool → Range
range sets = cond sets Sets Numbers

pub over_range : (b : Bool) → is_range Sets (Some (range b)) ≡ b
over_range true = refl
over_range false = refl

no_range_is : (b : Bool) → is_range (range b) None ≡ false
no_range_is true = refl
no_range_is false = refl

same_range : (a b : Bool) → is_range (range a) (Some (range b)) ≡ true → b ≡ a
same_range true true e = refl
same_range true false e = absurd (false≢true e)
same_range false true e = absurd (false≢true e)
same_range false false e = refl

is_its_range : (b : Bool) → is_range (range b) (Some (range b)) ≡ true
is_its_range true = refl
is_its_range false = refl

-- a word that is below a limit is a number
pub below : (z : ℤ) (n : ℕ) → n ≤ no_number → number z < n → z ≡ pos (number z)
unfolding number
below (pos v) n h l = refl
below (negsuc v) n h l = absurd (omega arith)

-- what is not the default was looked up
pub looked : {A : Type 0} (v n : ℕ) (x d : A) (p : A → Bool) → p d ≡ false → p (cond (ltb v n) x d) ≡ true → (v < n) × (p x ≡ true)
looked v n x d p none e = go (ltb v n) refl e
  where
    go : (b : Bool) → ltb v n ≡ b → p (cond b x d) ≡ true → (v < n) × (p x ≡ true)
    go true t e = (ltb-true v n t, e)
    go false t e = absurd (false≢true (sym none ∙ e))

-- The words z, x and y are those of a node that fits.
pub record NodeIs (qs : List Quantifier) (done : List Node) (z x y : ℤ) (n : Node) : Type 0 where
  pub words : node_words n ≡ z ∷ x ∷ y ∷ []
  pub sort_is : sort n ≡ sort_of (number z)
  pub fits : Fits qs done n

-- pairs, one to a line
infixr 60 ◌▸◌
pub ◌▸◌ : {A B : Type 0} → A → B → A × B
a ▸ b = (a, b)

-- After the nodes `done`, of kinds `kind`, under the quantifiers qs, of kinds `quantifier`.
module _ (qs : List Quantifier) (done : List Node) (kind quantifier : ℕ → ℕ) where
  abbrev pub Serves : Need → ℤ → Type 0
  Serves need z =
      serves need (number z) (child_sort kind (length done) (number z)) (name_range quantifier (length qs) (number z)) ≡ true

  abbrev pub Obeys : Option Row → ℤ → ℤ → Type 0
  Obeys None x y = ⊥
  Obeys (Some row) x y = Serves row.a x × Serves row.b y

  module _ (small : length done ≤ no_number) (few : length qs ≤ no_number)
      (sorts : (v : ℕ) → v < length done → sort (get_or done v unknown) ≡ sort_of (kind v))
      (binds : (v : ℕ) → v < length qs → range_of (quantifier v) ≡ Some (range (is_set_q (get_or qs v (int_q true))))) where
    -- ---- from words to the node

    unused : (z : ℤ) → Serves Unused z → z ≡ pos 0
    unfolding number
    unused (pos v) e = ap pos (eqb-true v 0 e)
    unused (negsuc v) e = absurd (false≢true e)

    record ChildIs (s : Sort) (z : ℤ) : Type 0 where
      at : ℕ
      is : z ≡ pos at
      node : Is s done at

    record NameIs (b : Bool) (z : ℤ) : Type 0 where
      at : ℕ
      is : z ≡ pos at
      quantifier_is : Binds b qs at

    child : (s : Sort) (z : ℤ) → Serves (Child s) z → ChildIs s z
    child s z e =
        let u = looked (number z) (length done) (sort_of (kind (number z))) None (is_sort s) (none_is s) e in
        record { at = number z; is = below z (length done) small u.0; node = (u.0, sorts (number z) u.0 ∙ sort_is s _ u.1) }

    name : (b : Bool) (z : ℤ) → Serves (Name (range b)) z → NameIs b z
    name b z e =
        let u = looked (number z) (length qs) (range_of (quantifier (number z))) None (is_range (range b)) (no_range_is b) e in
        record {
          at = number z;
          is = below z (length qs) few u.0;
          quantifier_is = (u.0, same_range b _ (ap (is_range (range b)) (sym (binds (number z) u.0)) ∙ u.1));
        }

    abbrev Good : Entry → Type 0
    Good e = (x y : ℤ) → Obeys e.needs x y → NodeIs qs done (pos e.kind) x y (e.node x y)

    abbrev AllGood : List Entry → Type 0
    AllGood [] = Unit {0}
    AllGood (e ∷ es) = Good e × AllGood es

    rows_good : AllGood sort_table
    unfolding node_words sort_of number
    rows_good =
        (λ x y (a, b). let m = name true x a in rw (m.is, unused y b) (record { words = refl; sort_is = refl; fits = m.quantifier_is }))
        ▸ (λ x y (a, b). rw (unused x a, unused y b) (record { words = refl; sort_is = refl; fits = tt }))
        ▸ (λ x y (a, b). rw (unused x a, unused y b) (record { words = refl; sort_is = refl; fits = tt }))
        ▸ (λ x y (a, b). let m = child ASet x a in let n = child ASet y b in rw (m.is, n.is) (record { words = refl; sort_is = refl; fits = (m.node, n.node) }))
        ▸ (λ x y (a, b). let m = child ASet x a in let n = child ASet y b in rw (m.is, n.is) (record { words = refl; sort_is = refl; fits = (m.node, n.node) }))
        ▸ (λ x y (a, b). let m = child ASet x a in rw (m.is, unused y b) (record { words = refl; sort_is = refl; fits = m.node }))
        ▸ (λ x y (a, b). let m = name false x a in rw (m.is, unused y b) (record { words = refl; sort_is = refl; fits = m.quantifier_is }))
        ▸ (λ x y (a, b). rw (unused y b) (record { words = refl; sort_is = refl; fits = tt }))
        ▸ (λ x y (a, b). rw (unused x a, unused y b) (record { words = refl; sort_is = refl; fits = tt }))
        ▸ (λ x y (a, b). let m = child ATerm x a in let n = child ATerm y b in rw (m.is, n.is) (record { words = refl; sort_is = refl; fits = (m.node, n.node) }))
        ▸ (λ x y (a, b). let m = child ATerm x a in let n = child ATerm y b in rw (m.is, n.is) (record { words = refl; sort_is = refl; fits = (m.node, n.node) }))
        ▸ (λ x y (a, b). let n = child ATerm y b in rw n.is (record { words = refl; sort_is = refl; fits = n.node }))
        ▸ (λ x y (a, b). let m = child ASet x a in rw (m.is, unused y b) (record { words = refl; sort_is = refl; fits = m.node }))
        ▸ (λ x y (a, b). let m = child ATerm x a in let n = child ATerm y b in rw (m.is, n.is) (record { words = refl; sort_is = refl; fits = (m.node, n.node) }))
        ▸ (λ x y (a, b). let m = child ATerm x a in let n = child ATerm y b in rw (m.is, n.is) (record { words = refl; sort_is = refl; fits = (m.node, n.node) }))
        ▸ (λ x y (a, b). let n = child ATerm y b in rw n.is (record { words = refl; sort_is = refl; fits = n.node }))
        ▸ (λ x y (a, b). let m = child ASet x a in let n = child ASet y b in rw (m.is, n.is) (record { words = refl; sort_is = refl; fits = (m.node, n.node) }))
        ▸ (λ x y (a, b). let m = child ASet x a in let n = child ASet y b in rw (m.is, n.is) (record { words = refl; sort_is = refl; fits = (m.node, n.node) }))
        ▸ (λ x y (a, b). let m = child AFormula x a in let n = child AFormula y b in rw (m.is, n.is) (record { words = refl; sort_is = refl; fits = (m.node, n.node) }))
        ▸ (λ x y (a, b). let m = child AFormula x a in let n = child AFormula y b in rw (m.is, n.is) (record { words = refl; sort_is = refl; fits = (m.node, n.node) }))
        ▸ (λ x y (a, b). let m = child AFormula x a in rw (m.is, unused y b) (record { words = refl; sort_is = refl; fits = m.node }))
        ▸ tt

    entry_good : (es : List Entry) → AllGood es → (k : ℕ) (x y : ℤ) → Obeys (entry_in es k).needs x y → NodeIs qs done (pos k) x y ((entry_in es k).node x y)
    entry_good [] g k x y o = absurd o
    entry_good (e ∷ es) (g, gs) k x y o = go (eqb e.kind k) refl o (entry_good es gs k x y)
      where
        go : (t : Bool) → eqb e.kind k ≡ t → Obeys (cond t e (entry_in es k)).needs x y
            → (Obeys (entry_in es k).needs x y → NodeIs qs done (pos k) x y ((entry_in es k).node x y))
            → NodeIs qs done (pos k) x y ((cond t e (entry_in es k)).node x y)
        go true p o r = subst (λ j. NodeIs qs done (pos j) x y (e.node x y)) (eqb-true e.kind k p) (g x y o)
        go false p o r = r o

    pub node_is : (z x y : ℤ) → Obeys (row_of (number z)) x y → NodeIs qs done z x y (node_of z x y)
    unfolding row_of node_of number
    node_is (pos k) x y o = entry_good sort_table rows_good k x y o
    node_is (negsuc k) x y o = absurd o

    -- ---- from the node to its words

    served_child : (s : Sort) (v : ℕ) → Is s done v → is_sort s (child_sort kind (length done) v) ≡ true
    served_child s v (h, e) = rw (lt-ltb v (length done) h) (ap (is_sort s) (sym (sorts v h) ∙ e) ∙ is_its_sort s)

    served_name : (b : Bool) (v : ℕ) → Binds b qs v → is_range (range b) (name_range quantifier (length qs) v) ≡ true
    served_name b v (h, e) =
        rw (lt-ltb v (length qs) h) (ap (is_range (range b)) (binds v h ∙ ap (λ c. Some (range c)) e) ∙ is_its_range b)

    abbrev Served : Node → Type 0
    Served n = Obeys (row_of (fields_of n).kind) (fields_of n).a (fields_of n).b

    pub fits_served : (n : Node) → Fits qs done n → Served n
    unfolding row_of number
    fits_served (set_var q) f = (served_name true q f, refl)
    fits_served empty f = (refl, refl)
    fits_served whole f = (refl, refl)
    fits_served (union a b) (f, g) = (served_child ASet a f, served_child ASet b g)
    fits_served (inter a b) (f, g) = (served_child ASet a f, served_child ASet b g)
    fits_served (compl a) f = (served_child ASet a f, refl)
    fits_served (num_var q) f = (served_name false q f, refl)
    fits_served (const c) f = (refl, refl)
    fits_served maxc f = (refl, refl)
    fits_served (sum a b) (f, g) = (served_child ATerm a f, served_child ATerm b g)
    fits_served (diff a b) (f, g) = (served_child ATerm a f, served_child ATerm b g)
    fits_served (multiple c b) f = (refl, served_child ATerm b f)
    fits_served (card a) f = (served_child ASet a f, refl)
    fits_served (equal a b) (f, g) = (served_child ATerm a f, served_child ATerm b g)
    fits_served (less a b) (f, g) = (served_child ATerm a f, served_child ATerm b g)
    fits_served (divided c b) f = (refl, served_child ATerm b f)
    fits_served (set_equal a b) (f, g) = (served_child ASet a f, served_child ASet b g)
    fits_served (subset a b) (f, g) = (served_child ASet a f, served_child ASet b g)
    fits_served (conj a b) (f, g) = (served_child AFormula a f, served_child AFormula b g)
    fits_served (disj a b) (f, g) = (served_child AFormula a f, served_child AFormula b g)
    fits_served (neg a) f = (served_child AFormula a f, refl)
    fits_served unknown f = absurd f
