-- Theorem A: a claim holds at size N over sets exactly if it does over region counts (003, section 4). Assumes nothing.
use mathlib.Core.Path.{◌≡◌, refl, sym, ◌∙◌, ap, ap₂, fun_ext}
use mathlib.Core.Logic.{◌↔◌}
use mathlib.Core.Bool.{Bool, true, false, ◌&&◌, and-true, and-false}
use mathlib.Core.List.{List, [], ◌∷◌, ◌++◌, map, map-append, map-map}
use Prim.Native.Nat.{ℕ, ◌+◌, ◌*◌, ◌<◌}
use native.Mathlib.Omega.{arith}
use borrow.Author.Tests.{lt-ltb, le-ltb}
use lib.Dec.{eqb, ltb}
use lib.IntN.{pos}
use lib.ListN.{get_or, get_or-map}
use Rattle.checker.specs.Claim.{Node, set_var, empty, whole, union, inter, compl, num_var, const, maxc, sum, diff, multiple, card, equal, less, divided, set_equal, subset, conj, disj, neg, unknown, Quantifier, int_q, set_q, count_q, Claim}
use Rattle.checker.specs.Meaning.{Set, Value, set, num, truth, as_set, as_num, as_truth, set_at, num_at, truth_at, World, value_of, values, matrix, bit, ports, Holds, Subset, TrueAt}
use Rattle.region.specs.Regions.{deeper, half, odd, dbl, tally, tallies, Split, minus, regions}
use Rattle.region.specs.Counting.{pull, grow, HoldsR, TrueAtR}
use Rattle.region.proofs.Regions.{dbl_is, double_half, double_odd, splitter, tallies_same, tallies-split, tallies_splitter, over_tallies, count_all, tallies_total, within_empty, same_empty}
use Rattle.region.proofs.Quantified.{quantified, quantified_same}

-- ---- a claim without quantifiers: values over ports are the values over regions, pulled back

-- P is about ports and W about regions, r giving each port's region.
record Over (r : ℕ → ℕ) (P W : World) : Type 0 where
  size : P.size ≡ W.size
  count : (a : Set) → P.count (λ p. a (r p)) ≡ W.count a
  same : (a b : Set) → P.same (λ p. a (r p)) (λ p. b (r p)) ≡ W.same a b
  within : (a b : Set) → P.within (λ p. a (r p)) (λ p. b (r p)) ≡ W.within a b

module _ (r : ℕ → ℕ) where
  at : (vs : List Value) (i : ℕ) → get_or (map (pull r) vs) i (truth false) ≡ pull r (get_or vs i (truth false))
  at vs i = get_or-map (pull r) vs i (truth false)

  pub set_at_lem : (vs : List Value) (i : ℕ) → set_at (map (pull r) vs) i ≡ (λ p. set_at vs i (r p))
  unfolding set_at
  set_at_lem vs i = ap as_set (at vs i) ∙ go (get_or vs i (truth false))
    where
      go : (v : Value) → as_set (pull r v) ≡ (λ p. as_set v (r p))
      go (set s) = refl
      go (num k) = refl
      go (truth b) = refl

  pub num_at_lem : (vs : List Value) (i : ℕ) → num_at (map (pull r) vs) i ≡ num_at vs i
  unfolding num_at
  num_at_lem vs i = ap as_num (at vs i) ∙ go (get_or vs i (truth false))
    where
      go : (v : Value) → as_num (pull r v) ≡ as_num v
      go (set s) = refl
      go (num k) = refl
      go (truth b) = refl

  truth_at_lem : (vs : List Value) (i : ℕ) → truth_at (map (pull r) vs) i ≡ truth_at vs i
  unfolding truth_at
  truth_at_lem vs i = ap as_truth (at vs i) ∙ go (get_or vs i (truth false))
    where
      go : (v : Value) → as_truth (pull r v) ≡ as_truth v
      go (set s) = refl
      go (num k) = refl
      go (truth b) = refl

  module _ {P W : World} (o : Over r P W) (qs : List Value) where
    value_of_lem : (vs : List Value) (n : Node) → value_of P (map (pull r) qs) (map (pull r) vs) n ≡ pull r (value_of W qs vs n)
    unfolding value_of
    value_of_lem vs (set_var q) = rw (set_at_lem qs q)
    value_of_lem vs empty = refl
    value_of_lem vs whole = refl
    value_of_lem vs (union a b) = rw (set_at_lem vs a, set_at_lem vs b)
    value_of_lem vs (inter a b) = rw (set_at_lem vs a, set_at_lem vs b)
    value_of_lem vs (compl a) = rw (set_at_lem vs a)
    value_of_lem vs (num_var q) = rw (num_at_lem qs q)
    value_of_lem vs (const c) = refl
    value_of_lem vs maxc = rw o.size
    value_of_lem vs (sum a b) = rw (num_at_lem vs a, num_at_lem vs b)
    value_of_lem vs (diff a b) = rw (num_at_lem vs a, num_at_lem vs b)
    value_of_lem vs (multiple c b) = rw (num_at_lem vs b)
    value_of_lem vs (card a) = rw (set_at_lem vs a, o.count (set_at vs a))
    value_of_lem vs (equal a b) = rw (num_at_lem vs a, num_at_lem vs b)
    value_of_lem vs (less a b) = rw (num_at_lem vs a, num_at_lem vs b)
    value_of_lem vs (divided c b) = rw (num_at_lem vs b)
    value_of_lem vs (set_equal a b) = rw (set_at_lem vs a, set_at_lem vs b, o.same (set_at vs a) (set_at vs b))
    value_of_lem vs (subset a b) = rw (set_at_lem vs a, set_at_lem vs b, o.within (set_at vs a) (set_at vs b))
    value_of_lem vs (conj a b) = rw (truth_at_lem vs a, truth_at_lem vs b)
    value_of_lem vs (disj a b) = rw (truth_at_lem vs a, truth_at_lem vs b)
    value_of_lem vs (neg a) = rw (truth_at_lem vs a)
    value_of_lem vs unknown = refl

    values_of : (vs : List Value) (ns : List Node)
        → values P (map (pull r) qs) (map (pull r) vs) ns ≡ map (pull r) (values W qs vs ns)
    unfolding values
    values_of vs [] = refl
    values_of vs (n ∷ ns) =
        rw (value_of_lem vs n, ← map-append (pull r) vs (value_of W qs vs n ∷ [])) (values_of (vs ++ value_of W qs vs n ∷ []) ns)

    matrix_of : (c : Claim) → matrix P c (map (pull r) qs) ≡ matrix W c qs
    unfolding matrix
    matrix_of c = rw (values_of [] c.nodes) (truth_at_lem (values W qs [] c.nodes) c.root)

over_ports : (n N : ℕ) (r : ℕ → ℕ) → ((p : ℕ) → r p < n) → Over r (ports N) (regions (tallies n N r))
over_ports n N r h =
    record {
      size = sym (tallies_total n N r h);
      count = λ a. sym (over_tallies n N r h a);
      same = λ a b.
          same_empty N (λ p. a (r p)) (λ p. b (r p))
          ∙ ap₂ (λ x y. eqb x 0 && eqb y 0) (sym (over_tallies n N r h (minus a b))) (sym (over_tallies n N r h (minus b a)));
      within = λ a b. within_empty N (λ p. a (r p)) (λ p. b (r p)) ∙ ap (λ x. eqb x 0) (sym (over_tallies n N r h (minus a b)));
    }

-- ---- one more set

deeper_half : (r : ℕ → ℕ) (y : Set) (p : ℕ) → half (deeper r y p) ≡ r p
unfolding deeper
deeper_half r y p = double_half (r p) (y p)

deeper_odd : (r : ℕ → ℕ) (y : Set) (p : ℕ) → odd (deeper r y p) ≡ y p
unfolding deeper
deeper_odd r y p = double_odd (r p) (y p)

pub deeper_lt : (n : ℕ) (r : ℕ → ℕ) (y : Set) → ((p : ℕ) → r p < n) → (p : ℕ) → deeper r y p < dbl n
unfolding deeper
deeper_lt n r y h p = go (y p)
  where
    go : (b : Bool) → 2 * r p + bit b < dbl n
    go true = omega (arith, dbl_is n, h p)
    go false = omega (arith, dbl_is n, h p)

pub pull_grow : (r : ℕ → ℕ) (y : Set) (vs : List Value) → map (pull r) vs ++ set y ∷ [] ≡ map (pull (deeper r y)) (grow vs)
unfolding grow
pull_grow r y vs =
    sym (map-append (pull (deeper r y)) (map (pull half) vs) (set odd ∷ [])
    ∙ ap₂ ◌++◌ (map-map (pull (deeper r y)) (pull half) vs ∙ ap (λ f. map f vs) (fun_ext old))
    (ap (λ s. set s ∷ []) (fun_ext (deeper_odd r y))))
  where
    old : (v : Value) → pull (deeper r y) (pull half v) ≡ pull r v
    old (set a) = ap set (fun_ext (λ p. ap a (deeper_half r y p)))
    old (num k) = refl
    old (truth b) = refl

-- ---- all quantifiers

-- A family that has every set, as far as the N ports go.
abbrev pub Full : (F : Type 0) → (F → Set) → ℕ → Type 0
Full F members N = (y : Set) → (f : F) × ((p : ℕ) → p < N → members f p ≡ y p)

module _ (F : Type 0) (members : F → Set) (N : ℕ) (full : Full F members N) (c : Claim) where
  carry : (qs : List Quantifier) {us vs : List Value} {X : Type 0} → us ≡ vs → Holds F members N c qs vs ↔ X → Holds F members N c qs us ↔ X
  carry qs e i = rw e i

  -- the set that splits the counts as `ls` does
  split_by : (n : ℕ) (r : ℕ → ℕ) (ls : List ℕ) → Split (tallies n N r) ls → (f : F) × (tallies (dbl n) N (deeper r (members f)) ≡ ls)
  unfolding deeper
  split_by n r ls s =
      let f = full (splitter r ls) in
      (f.0, tallies_same (dbl n) N (deeper r (members f.0)) (deeper r (splitter r ls)) (λ p l. rw (f.1 p l)) ∙ tallies_splitter n N r ls s)

  -- At any sets that are bound already: r gives each port's region among them, and `vs` the outer quantifiers' values over those regions.
  pub counting : (qs : List Quantifier) (n : ℕ) (r : ℕ → ℕ) → ((p : ℕ) → r p < n) → (vs : List Value)
      → Holds F members N c qs (map (pull r) vs) ↔ HoldsR c qs vs (tallies n N r)
  counting [] n r h vs =
      let e : matrix (ports N) c (map (pull r) vs) ≡ matrix (regions (tallies n N r)) c vs = matrix_of r (over_ports n N r h) vs c in
      (λ t. sym e ∙ t, λ t. e ∙ t)
  counting (int_q some ∷ qs) n r h vs =
      quantified_same some (λ k. carry qs (sym (map-append (pull r) vs (num k ∷ []))) (counting qs n r h (vs ++ num k ∷ [])))
  counting (set_q some ∷ qs) n r h vs =
      let step : (f : F) → Holds F members N c qs (map (pull r) vs ++ set (members f) ∷ []) ↔ HoldsR c qs (grow vs) (tallies (dbl n) N (deeper r (members f))) =
      λ f. carry qs (pull_grow r (members f) vs) (counting qs (dbl n) (deeper r (members f)) (deeper_lt n r (members f) h) (grow vs)) in
      quantified some (λ f. (tallies (dbl n) N (deeper r (members f)), tallies-split n N r (members f))) (λ x. (split_by n r x.0 x.1).0) step
      (λ x. let w = split_by n r x.0 x.1 in rw w.1 at (step w.0))
  counting (count_q some ∷ qs) n r h vs =
      quantified_same some (λ k. carry qs (sym (map-append (pull r) vs (num (pos k) ∷ []))) (counting qs n r h (vs ++ num (pos k) ∷ [])))

one_region : (N : ℕ) → tallies 1 N (λ p. 0) ≡ N ∷ []
unfolding tallies tally
one_region N = ap (λ n. n ∷ []) (count_all N)

pub counting_all : (F : Type 0) (members : F → Set) (N : ℕ) → Full F members N → (c : Claim)
    → Holds F members N c c.quantifiers [] ↔ TrueAtR N c
counting_all F members N full c =
    rw (one_region N) at (counting F members N full c c.quantifiers 1 (λ p. 0) (λ p. omega arith) [])

pub subsets_full : (N : ℕ) → Full (Subset N) (λ s. s.members) N
subsets_full N y = (
  record { members = λ p. y p && ltb p N; below = λ p l. rw (le-ltb p N l) (and-false (y p)) },
  λ p l. rw (lt-ltb p N l) (and-true (y p)),
)

-- Theorem A: a claim holds at size N over sets exactly if it does over counts, from one region of N ports.
pub theorem_a : (N : ℕ) (c : Claim) → TrueAt N c ↔ TrueAtR N c
theorem_a N c = counting_all (Subset N) (λ s. s.members) N (subsets_full N) c
