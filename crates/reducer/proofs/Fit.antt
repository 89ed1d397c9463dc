-- The runs of a well-sorted claim's nodes are well sorted, under quantifiers that bind no sets.
-- Assumes nothing.
use mathlib.Core.Path.{◌≡◌, refl, sym, subst}
use mathlib.Core.Bool.{true, false}
use mathlib.Core.List.{List, [], ◌∷◌, ◌++◌, append_assoc, append-nil}
use Prim.Native.Nat.{ℕ, zero, suc, ◌+◌, ◌<◌, ◌≤◌}
use native.Mathlib.Omega.{arith}
use lib.IntN.{pos}
use lib.ListN.{length, get_or, length-append}
use Rattle.checker.specs.declared.Sort.TheVariants.{ATerm, AFormula}
use Rattle.checker.specs.Claim.{Node, Quantifier, set_var, empty, whole, union, inter, compl, num_var, const, maxc, sum, diff, multiple, card, equal, less, divided, set_equal, subset, conj, disj, neg, unknown, int_q, set_q, count_q}
use Rattle.checker.specs.Sorts.{Is, is_set_q, Binds, Fits, AllFit, sets}
use Rattle.region.specs.Regions.{minus}
use Rattle.emission.specs.Emission.{Place, region_node, Frame, none, sum_run, card_run, last, empty_run, both_run, run_of, Emitted, emit_node, emit_nodes, size, counts}
use Rattle.reducer.proofs.Runs.{Below, covered_below}
use Rattle.reducer.proofs.Stands.{is_more, is_new, region_sort, card_tail, empty_tail, tail_is, Shaped, run_at, shaped_step}
use Rattle.reducer.proofs.Frames.{Placed, Framed}

pub fit_append : (qs : List Quantifier) (xs done ys : List Node) → AllFit qs done xs → AllFit qs (done ++ xs) ys → AllFit qs done (xs ++ ys)
fit_append qs [] done ys h k = rw append-nil at k
fit_append qs (x ∷ xs) done ys (h, hs) k = (h, fit_append qs xs (done ++ x ∷ []) ys hs (rw append_assoc k))

numbers_only : (qs : List Quantifier) → sets qs ≡ 0 → (i : ℕ) → is_set_q (get_or qs i (int_q true)) ≡ false
unfolding sets
numbers_only [] h i = refl
numbers_only (set_q some ∷ qs) h i = absurd (omega arith)
numbers_only (int_q some ∷ qs) h zero = refl
numbers_only (int_q some ∷ qs) h (suc i) = numbers_only qs h i
numbers_only (count_q some ∷ qs) h zero = refl
numbers_only (count_q some ∷ qs) h (suc i) = numbers_only qs h i

module _ (qs : List Quantifier) (free : sets qs ≡ 0) where
  binds : (i : ℕ) → i < length qs → Binds false qs i
  binds i l = (l, numbers_only qs free i)

  pub region_fits : (p : Place) (n m : ℕ) → Placed p n m → m ≤ length qs → (r : ℕ) → r < n → (done : List Node) → Fits qs done (region_node p r)
  region_fits size n m h l r k done = tt
  region_fits (counts first) n m h l r k done = binds (first + r) (omega arith)

  module _ (p : Place) (n : ℕ) (ok : (r : ℕ) → r < n → (done : List Node) → Fits qs done (region_node p r)) where
    sum_fits : (rs : List ℕ) → Below n rs → (done : List Node) (k : ℕ) → Is ATerm done k → k + 1 ≡ length done → AllFit qs done (sum_run p k rs)
    unfolding sum_run
    sum_fits [] b done k i l = tt
    sum_fits (r ∷ rs) (h, b) done k i l =
        let one = done ++ region_node p r ∷ [] in
        let two = one ++ sum k (k + 1) ∷ [] in
        let here : k + 2 ≡ length one = omega (arith, length-append done (region_node p r ∷ [])) in (
          ok r h done,
          (
            (is_more done (region_node p r ∷ []) k i, is_new done (region_node p r) (k + 1) l (region_sort p r)),
            sum_fits rs b two (k + 2) (is_new one (sum k (k + 1)) (k + 2) here refl) (omega (arith, length-append one (sum k (k + 1) ∷ []))),
          ),
        )

    card_fits : (rs : List ℕ) → Below n rs → (done : List Node) (k : ℕ) → k ≡ length done → AllFit qs done (card_run p k rs)
    unfolding card_run
    card_fits [] b done k l = (tt, tt)
    card_fits (r ∷ rs) (h, b) done k l = (
      ok r h done,
      sum_fits rs b (done ++ region_node p r ∷ []) k (is_new done (region_node p r) k l (region_sort p r))
          (omega (arith, length-append done (region_node p r ∷ []))),
    )

    empty_fits : (rs : List ℕ) → Below n rs → (done : List Node) (k : ℕ) → k ≡ length done → AllFit qs done (empty_run p k rs)
    unfolding empty_run
    empty_fits rs b done k l =
        let run = card_run p k rs in
        let end = done ++ run in
        let there : k + length run ≡ length end = omega (arith, length-append done run) in
        fit_append qs run done _ (card_fits rs b done k l) (
          tt,
          (
            (
              is_more end (const (pos 0) ∷ []) (last k run) (subst (λ m. Is ATerm end (last m run)) (sym l) (tail_is done run (card_tail p k rs))),
              is_new end (const (pos 0)) (k + length run) there refl,
            ),
            tt,
          ),
        )

    both_fits : (rs ss : List ℕ) → Below n rs → Below n ss → (done : List Node) (k : ℕ) → k ≡ length done → AllFit qs done (both_run p k rs ss)
    unfolding both_run
    both_fits rs ss b d done k l =
        let one = empty_run p k rs in
        let m = k + length one in
        let two = empty_run p m ss in
        let there : m ≡ length (done ++ one) = omega (arith, length-append done one) in
        fit_append qs (one ++ two) done _
        (fit_append qs one done two (empty_fits rs b done k l) (empty_fits ss d (done ++ one) m there)) (
          (
            subst (λ l. Is AFormula l (last k one)) (append_assoc done one two)
                (is_more (done ++ one) two (last k one) (subst (λ x. Is AFormula (done ++ one) (last x one)) (sym l) (tail_is done one (empty_tail p k rs)))),
            subst (λ l. Is AFormula l (last m two)) (append_assoc done one two)
                (subst (λ x. Is AFormula ((done ++ one) ++ two) (last x two)) (sym there) (tail_is (done ++ one) two (empty_tail p m ss))),
          ),
          tt,
        )

  -- ---- the run of a node; `in` are the input's quantifiers

  module _ (inq : List Quantifier) (f : Frame) (fr : Framed inq f) (reach : f.next ≤ length qs) where
    regions_fit : (r : ℕ) → r < f.regions → (done : List Node) → Fits qs done (region_node f.place r)
    regions_fit = region_fits f.place f.regions f.next fr.placed reach

    run_fits : (done : List Node) (e : Emitted) (n : Node) → Shaped done e → Fits inq done n → AllFit qs e.nodes (run_at f e n)
    unfolding run_of
    run_fits done e (set_var q) sh i = tt
    run_fits done e empty sh i = tt
    run_fits done e whole sh i = tt
    run_fits done e (union a b) sh i = tt
    run_fits done e (inter a b) sh i = tt
    run_fits done e (compl a) sh i = tt
    run_fits done e (num_var q) sh i = (binds (get_or f.numbers q 0) (omega (arith, fr.numbers q (omega (arith, fr.numbers_long, i.0)))), tt)
    run_fits done e (const c) sh i = (tt, tt)
    run_fits done e maxc sh i = (tt, tt)
    run_fits done e (sum a b) sh (i, j) = ((sh.placed ATerm tt a i, sh.placed ATerm tt b j), tt)
    run_fits done e (diff a b) sh (i, j) = ((sh.placed ATerm tt a i, sh.placed ATerm tt b j), tt)
    run_fits done e (multiple c b) sh i = (sh.placed ATerm tt b i, tt)
    run_fits done e (card a) sh i =
        card_fits f.place f.regions regions_fit _ (covered_below f.regions (get_or e.patterns a none)) e.nodes (length e.nodes) refl
    run_fits done e (equal a b) sh (i, j) = ((sh.placed ATerm tt a i, sh.placed ATerm tt b j), tt)
    run_fits done e (less a b) sh (i, j) = ((sh.placed ATerm tt a i, sh.placed ATerm tt b j), tt)
    run_fits done e (divided c b) sh i = (sh.placed ATerm tt b i, tt)
    run_fits done e (set_equal a b) sh i =
        both_fits f.place f.regions regions_fit _ _ (covered_below f.regions (minus (get_or e.patterns a none) (get_or e.patterns b none)))
        (covered_below f.regions (minus (get_or e.patterns b none) (get_or e.patterns a none))) e.nodes (length e.nodes) refl
    run_fits done e (subset a b) sh i =
        empty_fits f.place f.regions regions_fit _ (covered_below f.regions (minus (get_or e.patterns a none) (get_or e.patterns b none))) e.nodes (length e.nodes) refl
    run_fits done e (conj a b) sh (i, j) = ((sh.placed AFormula tt a i, sh.placed AFormula tt b j), tt)
    run_fits done e (disj a b) sh (i, j) = ((sh.placed AFormula tt a i, sh.placed AFormula tt b j), tt)
    run_fits done e (neg a) sh i = (sh.placed AFormula tt a i, tt)
    run_fits done e unknown sh i = absurd i

    pub nodes_fit : (ns done : List Node) (e : Emitted) → Shaped done e → AllFit inq done ns → AllFit qs [] e.nodes → AllFit qs [] (emit_nodes f e ns).nodes
    unfolding emit_nodes
    nodes_fit [] done e sh i h = h
    nodes_fit (n ∷ ns) done e sh (i, is) h =
        nodes_fit ns (done ++ n ∷ []) (emit_node f e n) (shaped_step f done e n sh) is
        (unfold emit_node in fit_append qs e.nodes [] (run_at f e n) h (run_fits done e n sh i))
