-- P7: from a size on, the truth of a claim that compares cardinalities with constants only stays as it is (003's Lemma 5). Assumes nothing.
use mathlib.Core.Path.{◌≡◌, refl, sym, ◌∙◌, ap, ap₂, subst}
use mathlib.Core.Logic.Iff
use mathlib.Core.Logic.{◌↔◌, ◌⊎◌, inl, inr, ⊎_elim}
use mathlib.Core.Bool.{Bool, true, false, cond, not, ◌&&◌, ◌||◌, false≢true}
use mathlib.Core.List.{List, [], ◌∷◌, ◌++◌}
use Prim.Native.Nat.{ℕ, zero, suc, ◌+◌, ◌*◌, ◌≤◌, ◌^◌, min}
use native.Mathlib.Nat.{pow-suc}
use native.Mathlib.Omega.{arith}
use borrow.Author.Tests.{eqb-true, leb-true, ne_eqb, not-true}
use lib.Dec.{leb, eqb}
use lib.IntN.{ℤ, pos}
use lib.ListN.{get_or}
use lib.Signed.{lt_z}
use Rattle.checker.specs.Claim.{Node, set_var, empty, whole, union, inter, compl, num_var, const, maxc, sum, diff, multiple, card, equal, less, divided, set_equal, subset, conj, disj, neg, unknown, Quantifier, int_q, set_q, count_q, Claim}
use Rattle.checker.specs.Kinds.{number, within}
use Rattle.checker.specs.Words.{fields_of}
use Rattle.checker.specs.Sorts.{sets}
use Rattle.checker.specs.Meaning.{Set, Value, num, truth, as_set, as_num, as_truth, set_at, num_at, truth_at, eq_z, value_of, values, matrix, TrueAt}
use Rattle.checker.proofs.Sorts.{inside}
use Rattle.std.proofs.lemmas.Bool.{and_parts}
use Rattle.region.specs.Regions.{Split, over, minus, regions}
use Rattle.region.specs.Counting.{grow, HoldsR, TrueAtR}
use Rattle.region.proofs.Quantified.{quantified_imp}
use Rattle.region.proofs.Counting.{theorem_a}
use Rattle.decider.specs.Threshold.{kind, is_constant, is_cardinality, joins, allowed, all_allowed, Thresholds, above, largest, no_numbers}
use Rattle.decider.proofs.Alike.{Alike, alike_sym, alike_over, transfer, Blunt, eqb_alike, equal_blunt, less_blunt}

or_one : (a b : Bool) → (a || b) ≡ true → (a ≡ true) ⊎ (b ≡ true)
or_one true b e = inl refl
or_one false b e = inr e

-- ---- what matters of a node: it counts a set's ports, it is a constant, or neither

data Shape : Type 0 where
  counts : Shape
  constant : ℤ → Shape
  plain : Shape

abbrev shape : Node → Shape
shape n = cond (is_cardinality n) counts (cond (is_constant n) (constant (fields_of n).a) plain)

shape_counts : (n : Node) → is_cardinality n ≡ true → shape n ≡ counts
shape_counts n e = rw e

shape_constant : (n : Node) → is_constant n ≡ true → shape n ≡ constant (fields_of n).a
shape_constant n e =
    let k : kind n ≡ 11 = eqb-true (kind n) 11 e in
    rw k

-- ---- the values at two lists of counts that are the same up to K + 1

module _ (K : ℕ) where
  -- Two values of a node of this shape: cardinalities are the same up to K + 1, and all else is the same.
  abbrev Same : Shape → Value → Value → Type 0
  Same counts v u = (x : ℕ) × (y : ℕ) × (v ≡ num (pos x)) × (u ≡ num (pos y)) × (min x (suc K) ≡ min y (suc K))
  Same (constant c) v u = (v ≡ num c) × (u ≡ num c) × (above c ≤ K)
  Same plain v u = v ≡ u

  abbrev Sames : List Node → List Value → List Value → Type 0
  Sames [] [] [] = Unit {0}
  Sames [] [] (u ∷ us) = ⊥
  Sames [] (v ∷ vs) us = ⊥
  Sames (n ∷ ns) [] us = ⊥
  Sames (n ∷ ns) (v ∷ vs) [] = ⊥
  Sames (n ∷ ns) (v ∷ vs) (u ∷ us) = Same (shape n) v u × Sames ns vs us

  same_at : (ns : List Node) (vs us : List Value) → Sames ns vs us → (i : ℕ)
      → Same (shape (get_or ns i unknown)) (get_or vs i (truth false)) (get_or us i (truth false))
  same_at [] [] [] h i = refl
  same_at [] [] (u ∷ us) h i = absurd h
  same_at [] (v ∷ vs) us h i = absurd h
  same_at (n ∷ ns) [] us h i = absurd h
  same_at (n ∷ ns) (v ∷ vs) [] h i = absurd h
  same_at (n ∷ ns) (v ∷ vs) (u ∷ us) (e, h) zero = e
  same_at (n ∷ ns) (v ∷ vs) (u ∷ us) (e, h) (suc i) = same_at ns vs us h i

  same-snoc : (ns : List Node) (vs us : List Value) → Sames ns vs us → (n : Node) (v u : Value) → Same (shape n) v u
      → Sames (ns ++ n ∷ []) (vs ++ v ∷ []) (us ++ u ∷ [])
  same-snoc [] [] [] h n v u e = (e, tt)
  same-snoc [] [] (z ∷ us) h n v u e = absurd h
  same-snoc [] (z ∷ vs) us h n v u e = absurd h
  same-snoc (m ∷ ns) [] us h n v u e = absurd h
  same-snoc (m ∷ ns) (z ∷ vs) [] h n v u e = absurd h
  same-snoc (m ∷ ns) (z ∷ vs) (w ∷ us) (d, h) n v u e = (d, same-snoc ns vs us h n v u e)

  -- Sets and truths are the same, whatever the shape.
  module _ {X : Type 0} (f : Value → X) (blind : (j k : ℤ) → f (num j) ≡ f (num k)) where
    same_as : (s : Shape) (v u : Value) → Same s v u → f v ≡ f u
    same_as counts v u (x, y, e, d, h) = ap f e ∙ blind (pos x) (pos y) ∙ sym (ap f d)
    same_as (constant c) v u (e, d, h) = ap f e ∙ sym (ap f d)
    same_as plain v u e = ap f e

  -- Numbers are the same to a test that is blunt against constants of at most K.
  module _ (test : ℤ → ℤ → Bool) (blunt : (x y : ℕ) → min x (suc K) ≡ min y (suc K) → (c : ℤ) → above c ≤ K → Blunt test x y c) where
    same_left : (c : ℤ) (v u w z : Value) → Same counts v u → Same (constant c) w z → test (as_num v) (as_num w) ≡ test (as_num u) (as_num z)
    same_left c v u w z (x, y, e, d, h) (p, q, l) =
        ap₂ test (ap as_num e) (ap as_num p) ∙ (blunt x y h c l).0 ∙ sym (ap₂ test (ap as_num d) (ap as_num q))

    same_right : (c : ℤ) (v u w z : Value) → Same (constant c) v u → Same counts w z → test (as_num v) (as_num w) ≡ test (as_num u) (as_num z)
    same_right c v u w z (p, q, l) (x, y, e, d, h) =
        ap₂ test (ap as_num p) (ap as_num e) ∙ (blunt x y h c l).1 ∙ sym (ap₂ test (ap as_num q) (ap as_num d))

    same_test : (m n : Node) (v u w z : Value) → joins m n ≡ true → Same (shape m) v u → Same (shape n) w z
        → test (as_num v) (as_num w) ≡ test (as_num u) (as_num z)
    same_test m n v u w z j s t =
        ⊎_elim
        (λ e.
        let b = and_parts (is_cardinality m) (is_constant n) e in
        same_left (fields_of n).a v u w z (subst (λ k. Same k v u) (shape_counts m b.0) s) (subst (λ k. Same k w z) (shape_constant n b.1) t))
        (λ e.
        let b = and_parts (is_constant m) (is_cardinality n) e in
        same_right (fields_of m).a v u w z (subst (λ k. Same k v u) (shape_constant m b.0) s) (subst (λ k. Same k w z) (shape_counts n b.1) t))
        (or_one (is_cardinality m && is_constant n) (is_constant m && is_cardinality n) j)

  module _ (done : List Node) (vs us : List Value) (h : Sames done vs us) where
    same_set : (i : ℕ) → set_at vs i ≡ set_at us i
    unfolding set_at
    same_set i = same_as as_set (λ j k. refl) (shape (get_or done i unknown)) (get_or vs i (truth false)) (get_or us i (truth false)) (same_at done vs us h i)

    same_truth : (i : ℕ) → truth_at vs i ≡ truth_at us i
    unfolding truth_at
    same_truth i = same_as as_truth (λ j k. refl) (shape (get_or done i unknown)) (get_or vs i (truth false)) (get_or us i (truth false)) (same_at done vs us h i)

    same_compare : (test : ℤ → ℤ → Bool) → ((x y : ℕ) → min x (suc K) ≡ min y (suc K) → (c : ℤ) → above c ≤ K → Blunt test x y c)
        → (a b : ℕ) → joins (get_or done a unknown) (get_or done b unknown) ≡ true → test (num_at vs a) (num_at vs b) ≡ test (num_at us a) (num_at us b)
    unfolding num_at
    same_compare test blunt a b j =
        same_test test blunt (get_or done a unknown) (get_or done b unknown) (get_or vs a (truth false)) (get_or us a (truth false))
        (get_or vs b (truth false)) (get_or us b (truth false)) j (same_at done vs us h a) (same_at done vs us h b)

  module _ (cs ds : List ℕ) (alike : Alike (suc K) cs ds) (qs : List Value) where
    empty_alike : (a : Set) → eqb (over a cs) 0 ≡ eqb (over a ds) 0
    empty_alike a = (eqb_alike K (over a cs) (over a ds) (alike_over (suc K) cs ds alike a) 0 (omega arith)).0

    same_value : (done : List Node) (vs us : List Value) → Sames done vs us → (n : Node) → allowed done n ≡ true → largest (n ∷ []) ≤ K
        → Same (shape n) (value_of (regions cs) qs vs n) (value_of (regions ds) qs us n)
    unfolding value_of allowed number largest
    same_value done vs us h (set_var q) o l = refl
    same_value done vs us h empty o l = refl
    same_value done vs us h whole o l = refl
    same_value done vs us h (union a b) o l = rw (same_set done vs us h a, same_set done vs us h b)
    same_value done vs us h (inter a b) o l = rw (same_set done vs us h a, same_set done vs us h b)
    same_value done vs us h (compl a) o l = rw (same_set done vs us h a)
    same_value done vs us h (num_var q) o l = absurd (false≢true o)
    same_value done vs us h (const c) o l = (refl, refl, omega arith)
    same_value done vs us h maxc o l = absurd (false≢true o)
    same_value done vs us h (sum a b) o l = absurd (false≢true o)
    same_value done vs us h (diff a b) o l = absurd (false≢true o)
    same_value done vs us h (multiple c b) o l = absurd (false≢true o)
    same_value done vs us h (card a) o l =
        (over (set_at vs a) cs, over (set_at us a) ds, refl, refl, rw (same_set done vs us h a) (alike_over (suc K) cs ds alike (set_at us a)))
    same_value done vs us h (equal a b) o l = ap truth (same_compare done vs us h eq_z (λ x y e c i. equal_blunt K x y e c i) a b o)
    same_value done vs us h (less a b) o l = ap truth (same_compare done vs us h lt_z (λ x y e c i. less_blunt K x y e c i) a b o)
    same_value done vs us h (divided c b) o l = absurd (false≢true o)
    same_value done vs us h (set_equal a b) o l =
        rw (same_set done vs us h a, same_set done vs us h b, empty_alike (minus (set_at us a) (set_at us b)), empty_alike (minus (set_at us b) (set_at us a)))
    same_value done vs us h (subset a b) o l =
        rw (same_set done vs us h a, same_set done vs us h b, empty_alike (minus (set_at us a) (set_at us b)))
    same_value done vs us h (conj a b) o l = rw (same_truth done vs us h a, same_truth done vs us h b)
    same_value done vs us h (disj a b) o l = rw (same_truth done vs us h a, same_truth done vs us h b)
    same_value done vs us h (neg a) o l = rw (same_truth done vs us h a)
    same_value done vs us h unknown o l = refl

    same_values : (ns done : List Node) (vs us : List Value) → Sames done vs us → all_allowed done ns ≡ true → largest ns ≤ K
        → (i : ℕ) → truth_at (values (regions cs) qs vs ns) i ≡ truth_at (values (regions ds) qs us ns) i
    unfolding values all_allowed largest
    same_values [] done vs us h o l i = same_truth done vs us h i
    same_values (n ∷ ns) done vs us h o l i =
        let both = and_parts (allowed done n) (all_allowed (done ++ n ∷ []) ns) o in
        same_values ns (done ++ n ∷ []) (vs ++ value_of (regions cs) qs vs n ∷ []) (us ++ value_of (regions ds) qs us n ∷ [])
        (same-snoc done vs us h n (value_of (regions cs) qs vs n) (value_of (regions ds) qs us n) (same_value done vs us h n both.0 (omega arith)))
        both.1 (omega arith) i

-- ---- the quantifiers

-- up to where counts must be the same, with these quantifiers to come
level : ℕ → List Quantifier → ℕ
level K [] = suc K
level K (int_q some ∷ qs) = level K qs
level K (set_q some ∷ qs) = 2 * level K qs
level K (count_q some ∷ qs) = level K qs

level_is : (K : ℕ) (qs : List Quantifier) → level K qs ≡ (K + 1) * 2 ^ sets qs
unfolding level sets
level_is K [] = omega arith
level_is K (int_q some ∷ qs) = level_is K qs
level_is K (set_q some ∷ qs) = rw (level_is K qs, pow-suc 2 (sets qs)) (omega arith)
level_is K (count_q some ∷ qs) = level_is K qs

module _ (c : Claim) (o : Thresholds c) (K : ℕ) (l : largest c.nodes ≤ K) where
  carried : (qs : List Quantifier) (vs : List Value) (cs ds : List ℕ) → Alike (level K qs) cs ds → HoldsR c qs vs cs → HoldsR c qs vs ds
  unfolding level matrix
  carried [] vs cs ds h = λ t. sym (same_values K cs ds h vs c.nodes [] [] [] tt o.only l c.root) ∙ t
  carried (int_q some ∷ qs) vs cs ds h =
      quantified_imp some (λ k. k) (λ k. k) (λ k. carried qs (vs ++ num k ∷ []) cs ds h) (λ k. carried qs (vs ++ num k ∷ []) cs ds h)
  carried (set_q some ∷ qs) vs cs ds h =
      let there : (x : (ls : List ℕ) × Split cs ls) → (ms : List ℕ) × (Split ds ms × Alike (level K qs) x.0 ms) =
      λ x. transfer (level K qs) cs ds x.0 h x.1 in
      let back : (y : (ms : List ℕ) × Split ds ms) → (ls : List ℕ) × (Split cs ls × Alike (level K qs) y.0 ls) =
      λ y. transfer (level K qs) ds cs y.0 (alike_sym (2 * level K qs) cs ds h) y.1 in
      quantified_imp some (λ x. ((there x).0, (there x).1.0)) (λ y. ((back y).0, (back y).1.0))
      (λ x. carried qs (grow vs) x.0 (there x).0 (there x).1.1)
      (λ y. carried qs (grow vs) (back y).0 y.0 (alike_sym (level K qs) y.0 (back y).0 (back y).1.1))
  carried (count_q some ∷ qs) vs cs ds h =
      quantified_imp some (λ k. k) (λ k. k) (λ k. carried qs (vs ++ num (pos k) ∷ []) cs ds h) (λ k. carried qs (vs ++ num (pos k) ∷ []) cs ds h)

-- P7: with K the largest constant and S sets, the truth is the same at all sizes from (K + 1) × 2^S up. Number quantifiers may stand.
pub threshold : (c : Claim) → Thresholds c → (N M : ℕ) → (largest c.nodes + 1) * 2 ^ sets c.quantifiers ≤ N
    → (largest c.nodes + 1) * 2 ^ sets c.quantifiers ≤ M → TrueAt N c ↔ TrueAt M c
threshold c o N M n m = Iff.trans (theorem_a N c) (Iff.trans (to N M n m, to M N m n) (Iff.symm (theorem_a M c)))
  where
    K : ℕ
    K = largest c.nodes

    to : (N M : ℕ) → (K + 1) * 2 ^ sets c.quantifiers ≤ N → (K + 1) * 2 ^ sets c.quantifiers ≤ M → TrueAtR N c → TrueAtR M c
    to N M n m t =
        carried c o K (omega arith) c.quantifiers [] (N ∷ []) (M ∷ []) (omega (arith, level_is K c.quantifiers), tt) t

-- ---- without number terms and comparisons

-- k is not inside
past : (lo hi k : ℕ) → within lo hi k ≡ false → lo ≤ k → k ≤ hi → ⊥
past lo hi k e a b = false≢true (sym e ∙ inside lo hi k a b)

narrower : (lo hi lo' hi' k : ℕ) → within lo hi k ≡ false → lo ≤ lo' → hi' ≤ hi → within lo' hi' k ≡ false
narrower lo hi lo' hi' k e a b = go (within lo' hi' k) refl
  where
    go : (t : Bool) → within lo' hi' k ≡ t → within lo' hi' k ≡ false
    go true f =
        let h = and_parts (leb lo' k) (leb k hi') f in
        absurd (past lo hi k e (omega (arith, leb-true lo' k h.0)) (omega (arith, leb-true k hi' h.1)))
    go false f = f

neither : (a b : Bool) → not (a || b) ≡ true → (a ≡ false) × (b ≡ false)
neither true b e = absurd (false≢true e)
neither false b e = (refl, not-true b e)

-- A node of none of the kinds 10 to 16 and 20 to 22 may stand after any nodes, and is no constant.
plain_allowed : (k : ℕ) (b : Bool) → not (within 10 16 k || within 20 22 k) ≡ true
    → (cond (within 20 21 k) b (not (eqb k 10 || within 12 15 k || eqb k 22)) ≡ true) × (eqb k 11 ≡ false)
plain_allowed k b e =
    let n = neither (within 10 16 k) (within 20 22 k) e in
    let ten : eqb k 10 ≡ false = ne_eqb k 10 (λ d. past 10 16 k n.0 (omega arith) (omega arith)) in
    let eleven : eqb k 11 ≡ false = ne_eqb k 11 (λ d. past 10 16 k n.0 (omega arith) (omega arith)) in
    let last : eqb k 22 ≡ false = ne_eqb k 22 (λ d. past 20 22 k n.1 (omega arith) (omega arith)) in
    (rw (narrower 20 22 20 21 k n.1 (omega arith) (omega arith), ten, narrower 10 16 12 15 k n.0 (omega arith) (omega arith), last), eleven)

no_numbers_lem : (done ns : List Node) → no_numbers ns ≡ true → (all_allowed done ns ≡ true) × (largest ns ≡ 0)
unfolding no_numbers all_allowed allowed largest
no_numbers_lem done [] e = (refl, refl)
no_numbers_lem done (n ∷ ns) e =
    let both = and_parts (not (within 10 16 (kind n) || within 20 22 (kind n))) (no_numbers ns) e in
    let here = plain_allowed (kind n) (joins (get_or done (number (fields_of n).a) unknown) (get_or done (number (fields_of n).b) unknown)) both.0 in
    let rest = no_numbers_lem (done ++ n ∷ []) ns both.1 in
    (ap₂ ◌&&◌ here.0 rest.0, rw (here.1, rest.1))

-- The truth of a claim without number terms and comparisons is the same at all sizes from 2^S up.
pub plain_threshold : (c : Claim) → no_numbers c.nodes ≡ true → (N M : ℕ) → 2 ^ sets c.quantifiers ≤ N → 2 ^ sets c.quantifiers ≤ M
    → TrueAt N c ↔ TrueAt M c
plain_threshold c e N M n m =
    let h = no_numbers_lem [] c.nodes e in
    let least : (largest c.nodes + 1) * 2 ^ sets c.quantifiers ≡ 2 ^ sets c.quantifiers = rw h.1 (omega arith) in
    threshold c (record { only = h.0 }) N M (omega arith) (omega arith)
