-- What is known of the array of values: how it grows by a node, and how it stands while more regions are settled. Assumes nothing.
use mathlib.Core.Path.{◌≡◌, refl, sym, ap, subst, ◌∙◌}
use mathlib.Core.Bool.{Bool, true, false}
use mathlib.Core.List.{List, [], ◌∷◌, ◌++◌, append_assoc, append-nil}
use Prim.Native.Nat.{ℕ, ◌+◌, ◌^◌, ◌≤◌, ◌<◌, zero-le}
use native.Mathlib.Nat.{le_trans, le_of_eq}
use native.Mathlib.Omega.{arith}
use borrow.Author.Tests.{eqb-true, eqb-false, le-ltb}
use lib.Dec.{eqb}
use lib.IntN.{ℤ, pos, nat_abs}
use lib.ListN.{length, get_or, take, set}
use lib.Seq.{get_or-take, get_or-set_same, get_or-set_other, length-take-le}
use Rattle.checker.specs.declared.Sort.{Sort}
use Rattle.checker.specs.declared.Sort.TheVariants.{ATerm, AFormula}
use Rattle.checker.specs.Claim.{Node, set_var, empty, whole, union, inter, compl, num_var, const, maxc, sum, diff, multiple, card, equal, less, divided, set_equal, subset, conj, disj, neg, unknown, Quantifier, Claim}
use Rattle.checker.specs.Words.{word}
use Rattle.checker.specs.Sorts.{sort, sets, Is, Fits, AllFit}
use Rattle.checker.specs.Meaning.{Value, truth, as_num, as_truth, truth_at, eq_z, World, value_of, matrix}
use Rattle.region.specs.Regions.{over, regions}
use Rattle.region.specs.Pattern.{covers_at}
use Rattle.region.proofs.Covered.{over_same, over_cut}
use Rattle.matrix.specs.Bound.{max_bound, first_over}
use Rattle.matrix.specs.Final.{final_values}
use Rattle.matrix.specs.Entry.{entry_of, node_values, Filled}
use Rattle.matrix.specs.Work.{children, Every, bit_z, says, work}
use Rattle.matrix.specs.Order.{Has, Order}
use Rattle.matrix.specs.Known.{shows, Shown, Counts, Known, Settled, Kept}
use Rattle.checker.proofs.Fitting.{fits_at}
use Rattle.matrix.proofs.Build.{build_at, values_build}
use Rattle.matrix.proofs.Bounded.{value_small}
use Rattle.matrix.proofs.Shown.{says_bit, work_shows}
use Rattle.matrix.proofs.Open.{over_front}

-- ---- more regions settled

module _ (c : Claim) (N : ℕ) (order : List ℕ) (n : ℕ) where
  pub known_none : (front : List ℕ) (xs : List ℤ) → Known c N front order 0 xs
  known_none front xs = record { shown = λ rest t k h. absurd (omega arith) }

  -- the counts of more regions stand
  pub known_more : (front next : List ℕ) (xs : List ℤ) → Known c N front order n xs → Known c N (front ++ next) order n xs
  known_more front next xs u = record { shown = λ rest t. rw (append_assoc front next rest) (u.shown (next ++ rest) (rw (append_assoc front next rest) at t)) }

  pub known_less : (m : ℕ) (front : List ℕ) (xs : List ℤ) → m ≤ n → Known c N front order n xs → Known c N front order m xs
  known_less m front xs l u = record { shown = λ rest t k h. u.shown rest t k (omega arith) }

  pub known_kept : (front : List ℕ) (xs ys : List ℤ) → Kept order n xs ys → Known c N front order n xs → Known c N front order n ys
  known_kept front xs ys e u = record { shown = λ rest t k h. rw (e k h) (u.shown rest t k h) }

  pub order_less : (m : ℕ) → m ≤ n → Order c order n → Order c order m
  order_less m l o =
      record { long = omega (arith, o.long); nodes = λ k h. o.nodes k (omega arith); once = λ j k a b. o.once j k a (omega arith); after = λ k h. o.after k (omega arith) }

-- ---- one node more

bit_small : (t : Bool) → nat_abs (bit_z t) ≤ max_bound
bit_small true = omega arith
bit_small false = omega arith

-- a number that shows a small value is small
module _ (v : Value) (h : nat_abs (as_num v) ≤ max_bound) (x : ℤ) where
  term_small : x ≡ as_num v → nat_abs x ≤ max_bound
  term_small e = le_trans (le_of_eq (ap nat_abs e)) h

  formula_small : x ≡ bit_z (as_truth v) → nat_abs x ≤ max_bound
  formula_small e = le_trans (le_of_eq (ap nat_abs e)) (bit_small (as_truth v))

work_small : (N p : ℕ) (xs : List ℤ) (v : Value) → nat_abs (as_num v) ≤ max_bound → (n : Node) → shows (sort n) (work N p xs n) v → nat_abs (work N p xs n) ≤ max_bound
unfolding work
work_small N p xs v h (set_var q) s = zero-le
work_small N p xs v h empty s = zero-le
work_small N p xs v h whole s = zero-le
work_small N p xs v h (union a b) s = zero-le
work_small N p xs v h (inter a b) s = zero-le
work_small N p xs v h (compl a) s = zero-le
work_small N p xs v h (num_var q) s = zero-le
work_small N p xs v h (const c) s = term_small v h _ s
work_small N p xs v h maxc s = term_small v h _ s
work_small N p xs v h (sum a b) s = term_small v h _ s
work_small N p xs v h (diff a b) s = term_small v h _ s
work_small N p xs v h (multiple c b) s = term_small v h _ s
work_small N p xs v h (card a) s = term_small v h _ s
work_small N p xs v h (equal a b) s = formula_small v h _ s
work_small N p xs v h (less a b) s = formula_small v h _ s
work_small N p xs v h (divided c b) s = formula_small v h _ s
work_small N p xs v h (set_equal a b) s = formula_small v h _ s
work_small N p xs v h (subset a b) s = formula_small v h _ s
work_small N p xs v h (conj a b) s = formula_small v h _ s
work_small N p xs v h (disj a b) s = formula_small v h _ s
work_small N p xs v h (neg a) s = formula_small v h _ s
work_small N p xs v h unknown s = zero-le

-- children are terms or formulas
module _ (P R : ℕ → Type 0) (done : List Node) (f : (a : ℕ) → Is ATerm done a → R a → P a) (g : (a : ℕ) → Is AFormula done a → R a → P a) where
  each_child : (qs : List Quantifier) (n : Node) → Fits qs done n → Every R (children n) → Every P (children n)
  unfolding children
  each_child qs (set_var q) fit r = tt
  each_child qs empty fit r = tt
  each_child qs whole fit r = tt
  each_child qs (union a b) fit r = tt
  each_child qs (inter a b) fit r = tt
  each_child qs (compl a) fit r = tt
  each_child qs (num_var q) fit r = tt
  each_child qs (const c) fit r = tt
  each_child qs maxc fit r = tt
  each_child qs (sum a b) fit r = (f a fit.0 r.0, (f b fit.1 r.1.0, tt))
  each_child qs (diff a b) fit r = (f a fit.0 r.0, (f b fit.1 r.1.0, tt))
  each_child qs (multiple c b) fit r = (f b fit r.0, tt)
  each_child qs (card a) fit r = tt
  each_child qs (equal a b) fit r = (f a fit.0 r.0, (f b fit.1 r.1.0, tt))
  each_child qs (less a b) fit r = (f a fit.0 r.0, (f b fit.1 r.1.0, tt))
  each_child qs (divided c b) fit r = (f b fit r.0, tt)
  each_child qs (set_equal a b) fit r = tt
  each_child qs (subset a b) fit r = tt
  each_child qs (conj a b) fit r = (g a fit.0 r.0, (g b fit.1 r.1.0, tt))
  each_child qs (disj a b) fit r = (g a fit.0 r.0, (g b fit.1 r.1.0, tt))
  each_child qs (neg a) fit r = (g a fit r.0, tt)
  each_child qs unknown fit r = tt

every_trivial : (l : List ℕ) → Every (λ x. Unit {0}) l
every_trivial [] = tt
every_trivial (x ∷ l) = (tt, every_trivial l)

pub children_below : (c : Claim) → AllFit c.quantifiers [] c.nodes → (i : ℕ) → i < length c.nodes → Every (λ a. a < i) (children (get_or c.nodes i unknown))
children_below c sorted i h =
    let long : length (take i c.nodes) ≡ i = length-take-le i c.nodes (omega arith) in
    each_child (λ a. a < i) (λ a. Unit {0}) (take i c.nodes) (λ a s r. rw long at s.0) (λ a s r. rw long at s.0)
    c.quantifiers (get_or c.nodes i unknown) (fits_at c.quantifiers c.nodes sorted i h) (every_trivial (children (get_or c.nodes i unknown)))

pub value_at : (w : World) (c : Claim) (i : ℕ) → i < length c.nodes
    → get_or (node_values w c) i (truth false) ≡ value_of w (final_values c.quantifiers) (take i (node_values w c)) (get_or c.nodes i unknown)
unfolding node_values
value_at w c i h = rw (values_build w (final_values c.quantifiers) [] c.nodes) (build_at (value_of w (final_values c.quantifiers)) c.nodes i (truth false) h)

-- place k of the order, where the places before it are known and the counts of `front` settle its entry
module _ (c : Claim) (sorted : AllFit c.quantifiers [] c.nodes) (N : ℕ) (bounded : first_over N c ≡ length c.nodes)
    (patterns : List ℕ) (filled : Filled c (length c.nodes) patterns) (order : List ℕ) (n : ℕ) (o : Order c order n) (k : ℕ) (h : k < n)
    (front : List ℕ) (settled : (r : ℕ) → length front ≤ r → covers_at patterns (get_or order k 0) r ≡ false) (xs : List ℤ) (u : Known c N front order k xs) where
  abbrev i : ℕ
  i = get_or order k 0

  abbrev node : Node
  node = get_or c.nodes i unknown

  abbrev done : List Node
  done = take i c.nodes

  abbrev ports : ℕ
  ports = over (covers_at patterns i) front

  fits : Fits c.quantifiers done node
  fits = fits_at c.quantifiers c.nodes sorted i (o.nodes k h)

  below : {s : Sort} (a : ℕ) → Is s done a → a < i
  below a (l, e) = rw (length-take-le i c.nodes (omega (arith, o.nodes k h))) at l

  module _ (rest : List ℕ) (t : Counts c N (front ++ rest)) where
    abbrev vs : List Value
    vs = take i (node_values (regions (front ++ rest)) c)

    abbrev Right : ℕ → Type 0
    Right a = shows (sort (get_or done a unknown)) (word xs a) (get_or vs a (truth false))

    right : (a : ℕ) → a < i → Has order k a → Right a
    right a l (j, m, e) =
        rw (get_or-take i c.nodes a unknown l, get_or-take i (node_values (regions (front ++ rest)) c) a (truth false) l)
        (subst (Shown c (front ++ rest) xs) e (u.shown rest t j m))

    rights : Every Right (children node)
    rights = each_child Right (Has order k) done (λ a s r. right a (below a s) r) (λ a s r. right a (below a s) r) c.quantifiers node fits (o.after k h)

    counted : ports ≡ over (entry_of (final_values c.quantifiers) vs node) (front ++ rest)
    counted =
        sym (over_front (covers_at patterns i) front rest settled)
        ∙ over_same (front ++ rest) (covers_at patterns i) _ (λ r l. filled.entry (regions (front ++ rest)) i (o.nodes k h) r)
        ∙ over_cut _ (entry_of (final_values c.quantifiers) vs node) (front ++ rest) t.regions

    next_shows : shows (sort node) (work N ports xs node) (get_or (node_values (regions (front ++ rest)) c) i (truth false))
    next_shows =
        rw (value_at (regions (front ++ rest)) c i (o.nodes k h), sym t.total)
        (work_shows done vs xs c.quantifiers c.quantifiers (front ++ rest) node ports counted fits rights)

    small : (a : ℕ) → a < length c.nodes → nat_abs (as_num (get_or (node_values (regions (front ++ rest)) c) a (truth false))) ≤ max_bound
    small = value_small N c (front ++ rest) t.total bounded

    small_earlier : (a : ℕ) → a < i → nat_abs (as_num (get_or vs a (truth false))) ≤ max_bound
    small_earlier a l = rw (get_or-take i (node_values (regions (front ++ rest)) c) a (truth false) l) (small a (omega (arith, o.nodes k h)))

    pub next_small : nat_abs (work N ports xs node) ≤ max_bound
    next_small = work_small N ports xs _ (small i (o.nodes k h)) node next_shows

    pub next_earlier : Every (λ a. (a < i) × (nat_abs (word xs a) ≤ max_bound)) (children node)
    next_earlier =
        each_child (λ a. (a < i) × (nat_abs (word xs a) ≤ max_bound)) Right done
        (λ a s r. (below a s, term_small (get_or vs a (truth false)) (small_earlier a (below a s)) (word xs a) (rw s.1 at r)))
        (λ a s r. (below a s, formula_small (get_or vs a (truth false)) (small_earlier a (below a s)) (word xs a) (rw s.1 at r)))
        c.quantifiers node fits rights

  -- the node's number is stored
  pub known_next : i < length xs → Known c N front order (k + 1) (set xs i (work N ports xs node))
  known_next l = record { shown = λ rest t j m. at rest t j m (eqb j k) refl }
    where
      at : (rest : List ℕ) → Counts c N (front ++ rest) → (j : ℕ) → j < k + 1 → (b : Bool) → eqb j k ≡ b → Shown c (front ++ rest) (set xs i (work N ports xs node)) (get_or order j 0)
      at rest t j m true e =
          let z : j ≡ k = eqb-true j k e in
          rw (z, get_or-set_same xs i (work N ports xs node) (pos 0) l) (next_shows rest t)
      at rest t j m false e =
          let z : j < k = omega (arith, eqb-false j k e) in
          rw (get_or-set_other xs i (get_or order j 0) (work N ports xs node) (pos 0) (o.once j k z h)) (u.shown rest t j z)

-- what is stored at a place of the order leaves the places before it as they were
pub kept_next : (c : Claim) (order : List ℕ) (n : ℕ) → Order c order n → (m k : ℕ) → m ≤ k → k < n → (before xs : List ℤ) (v : ℤ)
    → Kept order m before xs → Kept order m before (set xs (get_or order k 0) v)
kept_next c order n o m k l h before xs v e j a = get_or-set_other xs (get_or order k 0) (get_or order j 0) v (pos 0) (o.once j k (omega arith) h) ∙ e j a

-- ---- all regions settled

-- no entry covers a region that there is not
pub settled_all : (c : Claim) (patterns order : List ℕ) (k n m : ℕ) → Filled c (length c.nodes) patterns → Order c order n → 2 ^ sets c.quantifiers ≤ m
    → Settled patterns m order k n
settled_all c patterns order k n m f o h j a b r l =
    rw (f.entry (regions []) (get_or order j 0) (o.nodes j b) r, le-ltb r (2 ^ sets c.quantifiers) (omega arith))

-- the root's value is the matrix
pub root_says : (c : Claim) (N : ℕ) (cs order : List ℕ) (n : ℕ) (xs : List ℤ) → Is AFormula c.nodes c.root → Counts c N cs → Known c N cs order n xs
    → Has order n c.root → says xs c.root ≡ matrix (regions cs) c (final_values c.quantifiers)
unfolding matrix node_values truth_at
root_says c N cs order n xs (l, s) t u (k, h, e) =
    let shown : Shown c cs xs c.root = rw append-nil at (subst (Shown c (cs ++ []) xs) e (u.shown [] (rw (append-nil cs) t) k h)) in
    ap (λ x. eq_z x (pos 1)) (rw s at shown) ∙ says_bit _
