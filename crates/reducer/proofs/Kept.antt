-- The value of an input node, over region counts, is the value of the emitted node that stands for it; what a set covers is its value.
-- Assumes nothing.
use mathlib.Core.Path.{◌≡◌, refl, sym, ◌∙◌, ap, ap₂, subst}
use mathlib.Core.Bool.{true, false, not, ◌&&◌, ◌||◌, false≢true}
use mathlib.Core.List.{List, [], ◌∷◌, ◌++◌, append_assoc, append-nil}
use Prim.Native.Nat.{ℕ, ◌<◌}
use native.Mathlib.Omega.{arith}
use lib.Dec.{eqb}
use lib.IntN.{pos, ◌+ℤ◌, ◌-ℤ◌, ◌*ℤ◌}
use lib.ListN.{length, get_or, length-append}
use lib.Signed.{lt_z}
use Rattle.std.specs.Prelude.{Some}
use Rattle.checker.specs.declared.Sort.{Sort}
use Rattle.checker.specs.declared.Sort.TheVariants.{ASet, ATerm, AFormula}
use Rattle.checker.specs.Claim.{Node, Quantifier, set_var, empty, whole, union, inter, compl, num_var, const, maxc, sum, diff, multiple, card, equal, less, divided, set_equal, subset, conj, disj, neg, unknown}
use Rattle.checker.specs.Kinds.{is_set}
use Rattle.checker.specs.Sorts.{sort, Is, Binds, Fits, AllFit}
use Rattle.checker.specs.Meaning.{Set, Value, as_set, as_num, as_truth, set_at, num_at, truth_at, divides, eq_z, World, value_of, values, num, truth}
use Rattle.region.specs.Regions.{minus, over, covered, regions}
use Rattle.emission.specs.Emission.{Frame, none, last, run_of, pattern_of, Emitted, emit_node, emit_nodes}
use Rattle.reducer.proofs.Lists.{new_at, old_at, at_each}
use Rattle.reducer.proofs.Ends.{no_value, values-append, values_length, values_keep, Ends, ends_at, ends_one, amount}
use Rattle.reducer.proofs.Runs.{total, covered_below, total_over, card_ends, empty_ends, both_ends}
use Rattle.reducer.proofs.Stands.{Scalar, is_old, new_sort, Shaped, nothing, run_at, shaped_step}

set_is : (us vs : List Value) (i j : ℕ) → get_or us i no_value ≡ get_or vs j no_value → set_at us i ≡ set_at vs j
unfolding set_at
set_is us vs i j e = ap as_set e

set_at_lem : (us : List Value) (i : ℕ) {v : Value} → get_or us i no_value ≡ v → set_at us i ≡ as_set v
unfolding set_at
set_at_lem us i e = ap as_set e

-- The quantifiers' values: `us` of the emission, `vs` of the claim over the regions of counts cs.
pub record Final (w : World) (qs : List Quantifier) (f : Frame) (us vs : List Value) (cs : List ℕ) : Type 0 where
  pub long : length cs ≡ f.regions
  pub all : over (λ i. true) cs ≡ w.size
  pub amounts : (r : ℕ) → r < f.regions → amount w us f.place r ≡ pos (get_or cs r 0)
  pub covers : (q : ℕ) → set_at vs q ≡ get_or f.covers q none
  pub numbers : (q : ℕ) → Binds false qs q → num_at us (get_or f.numbers q 0) ≡ num_at vs q

module _ (w : World) (qs : List Quantifier) (f : Frame) (us vs : List Value) (cs : List ℕ) (m : Final w qs f us vs cs) where
  over_covered : (p : Set) → total (λ r. get_or cs r 0) (covered 0 f.regions p) ≡ over p cs
  over_covered p = total_over cs f.regions m.long p

  ends_is : {ws : List Value} {xs : List Node} {u v : Value} → u ≡ v → Ends w us ws xs u → Ends w us ws xs v
  ends_is e h = rw (← e) h

  -- the values of the input's nodes, and of the emitted ones
  abbrev pub ins : List Node → List Value
  ins done = values (regions cs) vs [] done

  abbrev pub outs : Emitted → List Value
  outs e = values w us [] e.nodes

  pub record Kept (done : List Node) (e : Emitted) : Type 0 where
    pub sets : (a : ℕ) → Is ASet done a → set_at (ins done) a ≡ get_or e.patterns a none
    pub others : (s : Sort) → Scalar (Some s) → (a : ℕ) → Is s done a → get_or (outs e) (get_or e.stands a 0) no_value ≡ get_or (ins done) a no_value

  module _ (done : List Node) (e : Emitted) (h : Kept done e) where
    abbrev st : ℕ → ℕ
    st a = get_or e.stands a 0

    abbrev pat : ℕ → Set
    pat a = get_or e.patterns a none

    nums : (a : ℕ) → Is ATerm done a → num_at (outs e) (st a) ≡ num_at (ins done) a
    unfolding num_at
    nums a i = ap as_num (h.others ATerm tt a i)

    truths : (a : ℕ) → Is AFormula done a → truth_at (outs e) (st a) ≡ truth_at (ins done) a
    unfolding truth_at
    truths a i = ap as_truth (h.others AFormula tt a i)

    minuses : (a b : ℕ) → Is ASet done a → Is ASet done b
        → total (λ r. get_or cs r 0) (covered 0 f.regions (minus (pat a) (pat b))) ≡ over (minus (set_at (ins done) a) (set_at (ins done) b)) cs
    minuses a b i j = over_covered (minus (pat a) (pat b)) ∙ ap₂ (λ x y. over (minus x y) cs) (sym (h.sets a i)) (sym (h.sets b j))

    run_ends : (n : Node) → Scalar (sort n) → Fits qs done n → (k : ℕ) → k ≡ length (outs e)
        → Ends w us (outs e) (run_of f k st pat n) (value_of (regions cs) vs (ins done) n)
    unfolding run_of value_of
    run_ends (set_var q) s i k l = absurd s
    run_ends empty s i k l = absurd s
    run_ends whole s i k l = absurd s
    run_ends (union a b) s i k l = absurd s
    run_ends (inter a b) s i k l = absurd s
    run_ends (compl a) s i k l = absurd s
    run_ends (num_var q) s i k l = ends_one w us (ap num (m.numbers q i))
    run_ends (const c) s i k l = ends_one w us refl
    run_ends maxc s i k l = ends_one w us (ap (λ x. num (pos x)) (sym m.all))
    run_ends (sum a b) s (i, j) k l = ends_one w us (ap₂ (λ x y. num (x +ℤ y)) (nums a i) (nums b j))
    run_ends (diff a b) s (i, j) k l = ends_one w us (ap₂ (λ x y. num (x -ℤ y)) (nums a i) (nums b j))
    run_ends (multiple c b) s i k l = ends_one w us (ap (λ x. num (c *ℤ x)) (nums b i))
    run_ends (card a) s i k l =
        ends_is (ap (λ x. num (pos x)) (over_covered (pat a) ∙ ap (λ x. over x cs) (sym (h.sets a i))))
        (card_ends w us f.place f.regions (λ r. get_or cs r 0) m.amounts _ (covered_below f.regions (pat a)) (outs e) k l)
    run_ends (equal a b) s (i, j) k l = ends_one w us (ap₂ (λ x y. truth (eq_z x y)) (nums a i) (nums b j))
    run_ends (less a b) s (i, j) k l = ends_one w us (ap₂ (λ x y. truth (lt_z x y)) (nums a i) (nums b j))
    run_ends (divided c b) s i k l = ends_one w us (ap (λ x. truth (divides c x)) (nums b i))
    run_ends (set_equal a b) s (i, j) k l =
        ends_is (ap₂ (λ x y. truth (eqb x 0 && eqb y 0)) (minuses a b i j) (minuses b a j i))
        (both_ends w us f.place f.regions (λ r. get_or cs r 0) m.amounts _ _ (covered_below f.regions (minus (pat a) (pat b))) (covered_below f.regions (minus (pat b) (pat a))) (outs e) k l)
    run_ends (subset a b) s (i, j) k l =
        ends_is (ap (λ x. truth (eqb x 0)) (minuses a b i j))
        (empty_ends w us f.place f.regions (λ r. get_or cs r 0) m.amounts _ (covered_below f.regions (minus (pat a) (pat b))) (outs e) k l)
    run_ends (conj a b) s (i, j) k l = ends_one w us (ap₂ (λ x y. truth (x && y)) (truths a i) (truths b j))
    run_ends (disj a b) s (i, j) k l = ends_one w us (ap₂ (λ x y. truth (x || y)) (truths a i) (truths b j))
    run_ends (neg a) s i k l = ends_one w us (ap (λ x. truth (not x)) (truths a i))
    run_ends unknown s i k l = absurd s

    pattern_is : (n : Node) → is_set (sort n) ≡ true → Fits qs done n → as_set (value_of (regions cs) vs (ins done) n) ≡ pattern_of f pat n
    unfolding pattern_of value_of
    pattern_is (set_var q) s i = m.covers q
    pattern_is empty s i = refl
    pattern_is whole s i = refl
    pattern_is (union a b) s (i, j) = ap₂ (λ x y r. x r || y r) (h.sets a i) (h.sets b j)
    pattern_is (inter a b) s (i, j) = ap₂ (λ x y r. x r && y r) (h.sets a i) (h.sets b j)
    pattern_is (compl a) s i = ap (λ x r. not (x r)) (h.sets a i)
    pattern_is (num_var q) s i = absurd (false≢true s)
    pattern_is (const c) s i = absurd (false≢true s)
    pattern_is maxc s i = absurd (false≢true s)
    pattern_is (sum a b) s i = absurd (false≢true s)
    pattern_is (diff a b) s i = absurd (false≢true s)
    pattern_is (multiple c b) s i = absurd (false≢true s)
    pattern_is (card a) s i = absurd (false≢true s)
    pattern_is (equal a b) s i = absurd (false≢true s)
    pattern_is (less a b) s i = absurd (false≢true s)
    pattern_is (divided c b) s i = absurd (false≢true s)
    pattern_is (set_equal a b) s i = absurd (false≢true s)
    pattern_is (subset a b) s i = absurd (false≢true s)
    pattern_is (conj a b) s i = absurd (false≢true s)
    pattern_is (disj a b) s i = absurd (false≢true s)
    pattern_is (neg a) s i = absurd (false≢true s)
    pattern_is unknown s i = absurd (false≢true s)

  pub kept_none : Kept [] nothing
  kept_none = record { sets = λ a i. absurd (omega (arith, i.0)); others = λ s sc a i. absurd (omega (arith, i.0)) }

  ins_more : (done : List Node) (n : Node) → ins (done ++ n ∷ []) ≡ ins done ++ value_of (regions cs) vs (ins done) n ∷ []
  unfolding values
  ins_more done n = values-append (regions cs) vs [] done (n ∷ [])

  kept_step : (done : List Node) (e : Emitted) (n : Node) → Shaped done e → Fits qs done n → Kept done e → Kept (done ++ n ∷ []) (emit_node f e n)
  unfolding emit_node
  kept_step done e n sh i h =
      record {
        sets = λ a j.
            at_each (λ a p. Is ASet (done ++ n ∷ []) a → set_at (ins (done ++ n ∷ [])) a ≡ p) e.patterns (pattern_of f (pat done e h) n) none old_set new_set a
            (simp length-append (omega (arith, sh.patterns_long, j.0, length-append done (n ∷ [])))) j;
        others = λ s sc a j.
            at_each (λ a y. Is s (done ++ n ∷ []) a → get_or all y no_value ≡ get_or (ins (done ++ n ∷ [])) a no_value) e.stands (last (length e.nodes) run) 0
            (old_value s sc) (new_value s sc) a (simp length-append (omega (arith, sh.stands_long, j.0, length-append done (n ∷ [])))) j;
      }
    where
      run : List Node
      run = run_at f e n

      v : Value
      v = value_of (regions cs) vs (ins done) n

      all : List Value
      all = values w us [] (e.nodes ++ run)

      ins_long : length (ins done) ≡ length done
      ins_long = omega (arith, values_length (regions cs) vs [] done)

      outs_long : length (outs e) ≡ length e.nodes
      outs_long = omega (arith, values_length w us [] e.nodes)

      old_in : (a : ℕ) → a < length done → get_or (ins (done ++ n ∷ [])) a no_value ≡ get_or (ins done) a no_value
      old_in a l = ap (λ x. get_or x a no_value) (ins_more done n) ∙ old_at (ins done) (v ∷ []) no_value a (omega (arith, ins_long))

      new_in : (a : ℕ) → a ≡ length done → get_or (ins (done ++ n ∷ [])) a no_value ≡ v
      new_in a l = ap (λ x. get_or x a no_value) (ins_more done n) ∙ new_at (ins done) v no_value a (l ∙ sym ins_long)

      old_set : (a : ℕ) → a < length e.patterns → Is ASet (done ++ n ∷ []) a → set_at (ins (done ++ n ∷ [])) a ≡ get_or e.patterns a none
      old_set a l j =
          let d : a < length done = omega (arith, sh.patterns_long) in
          set_is _ _ a a (old_in a d) ∙ h.sets a (is_old done n a d j)

      new_set : Is ASet (done ++ n ∷ []) (length e.patterns) → set_at (ins (done ++ n ∷ [])) (length e.patterns) ≡ pattern_of f (pat done e h) n
      new_set j =
          let k : sort n ≡ Some ASet = new_sort done n _ sh.patterns_long j in
          set_at_lem _ _ (new_in _ sh.patterns_long) ∙ pattern_is done e h n (ap is_set k) i

      old_value : (s : Sort) → Scalar (Some s) → (a : ℕ) → a < length e.stands → Is s (done ++ n ∷ []) a
          → get_or all (get_or e.stands a 0) no_value ≡ get_or (ins (done ++ n ∷ [])) a no_value
      old_value s sc a l j =
          let d : a < length done = omega (arith, sh.stands_long) in
          let was : Is s done a = is_old done n a d j in
          ap (λ x. get_or x (get_or e.stands a 0) no_value) (values-append w us [] e.nodes run)
          ∙ values_keep w us (outs e) run _ (omega (arith, outs_long, (sh.placed s sc a was).0)) ∙ h.others s sc a was ∙ sym (old_in a d)

      new_value : (s : Sort) → Scalar (Some s) → Is s (done ++ n ∷ []) (length e.stands)
          → get_or all (last (length e.nodes) run) no_value ≡ get_or (ins (done ++ n ∷ [])) (length e.stands) no_value
      new_value s sc j =
          let k : sort n ≡ Some s = new_sort done n _ sh.stands_long j in
          let r : Ends w us (outs e) run v = run_ends done e h n (subst Scalar (sym k) sc) i (length e.nodes) (sym outs_long) in
          ap (λ x. get_or x (last (length e.nodes) run) no_value) (values-append w us [] e.nodes run)
          ∙ ends_at w us r (length e.nodes) (sym outs_long) ∙ sym (new_in _ sh.stands_long)

  pub kept_all : (ns done : List Node) (e : Emitted) → Shaped done e → AllFit qs done ns → Kept done e → Kept (done ++ ns) (emit_nodes f e ns)
  unfolding emit_nodes
  kept_all [] done e sh i h = rw append-nil h
  kept_all (n ∷ ns) done e sh (i, is) h =
      rw append_assoc at (kept_all ns (done ++ n ∷ []) (emit_node f e n) (shaped_step f done e n sh) is (kept_step done e n sh i h))
