-- The emission of a well-sorted claim is well sorted.
-- Assumes nothing.
use mathlib.Core.Path.{◌≡◌, refl, subst}
use mathlib.Core.Bool.{true, false}
use mathlib.Core.List.{List, [], ◌∷◌, ◌++◌, append_assoc}
use Prim.Native.Nat.{ℕ, zero, suc, ◌+◌, ◌*◌, ◌-◌, ◌<◌, ◌≤◌}
use native.Mathlib.Omega.{arith}
use lib.ListN.{length, length-append}
use Rattle.std.specs.Prelude.{Some}
use Rattle.checker.specs.declared.Sort.TheVariants.{ATerm, AFormula}
use Rattle.checker.specs.Claim.{Node, Quantifier, Claim, sum, equal, conj, disj, neg, int_q, set_q, count_q}
use Rattle.checker.specs.Sorts.{sort, Is, Fits, AllFit, WellSorted, sets}
use Rattle.region.specs.Regions.{dbl}
use Rattle.region.proofs.Regions.{dbl_is}
use Rattle.emission.specs.Emission.{Place, region_node, Frame, start, with_set, inside, inside_all, emit_quantifiers, last, five, further_fives, constraint, Body, split_run, join_some, join_all, join, close, body, emission, counts}
use Rattle.emission.proofs.Lengths.{next_is}
use Rattle.reducer.proofs.Stands.{is_more, is_new, Tail, region_sort, tail_is, nothing, shaped_none, shaped_all}
use Rattle.reducer.proofs.Bindings.{no_sets_emit}
use Rattle.reducer.proofs.Fit.{fit_append, region_fits, nodes_fit}
use Rattle.reducer.proofs.Frames.{Framed, framed_start, framed_inside, framed_all}

module _ (qs : List Quantifier) (free : sets qs ≡ 0) where
  module _ (p q : Place) (n : ℕ) (okp : (r : ℕ) → r < n → (done : List Node) → Fits qs done (region_node p r))
      (okq : (r : ℕ) → r < dbl n → (done : List Node) → Fits qs done (region_node q r)) where
    five_fits : (i : ℕ) → i < n → (done : List Node) (k : ℕ) → k ≡ length done → AllFit qs done (five p q k i)
    unfolding five
    five_fits i h done k l =
        let a = region_node p i in
        let b = region_node q (2 * i) in
        let c = region_node q (2 * i + 1) in
        let d = sum (k + 1) (k + 2) in
        let one = done ++ a ∷ [] in
        let two = one ++ b ∷ [] in
        let three = two ++ c ∷ [] in
        let four = three ++ d ∷ [] in
        let h₁ : k + 1 ≡ length one = omega (arith, length-append done (a ∷ [])) in
        let h₂ : k + 2 ≡ length two = omega (arith, length-append one (b ∷ [])) in
        let h₃ : k + 3 ≡ length three = omega (arith, length-append two (c ∷ [])) in
        let ia : Is ATerm one k = is_new done a k l (region_sort p i) in
        let ib : Is ATerm two (k + 1) = is_new one b (k + 1) h₁ (region_sort q (2 * i)) in
        let ic : Is ATerm three (k + 2) = is_new two c (k + 2) h₂ (region_sort q (2 * i + 1)) in (
          okp i h done,
          (
            okq (2 * i) (omega (arith, dbl_is n)) one,
            (
              okq (2 * i + 1) (omega (arith, dbl_is n)) two,
              (
                (is_more two (c ∷ []) (k + 1) ib, ic),
                ((is_more three (d ∷ []) k (is_more two (c ∷ []) k (is_more one (b ∷ []) k ia)), is_new three d (k + 3) h₃ refl), tt),
              ),
            ),
          ),
        )

    five_end : (i : ℕ) (done : List Node) (k : ℕ) → k ≡ length done → Is AFormula (done ++ five p q k i) (k + 4)
    unfolding five
    five_end i done k l =
        subst (λ x. Is AFormula (done ++ five p q k i) x) (omega arith)
        (tail_is done (five p q k i) (record { front = region_node p i ∷ region_node q (2 * i) ∷ region_node q (2 * i + 1) ∷ sum (k + 1) (k + 2) ∷ []; final = equal k (k + 3); is = refl; sorted = refl }))

    further_fits : (m i : ℕ) → i + m ≤ n → (done : List Node) (k : ℕ) → Is AFormula done k → k + 1 ≡ length done → AllFit qs done (further_fives p q k i m)
    unfolding five further_fives
    further_fits zero i h done k f l = tt
    further_fits (suc m) i h done k f l =
        let run = five p q (k + 1) i in
        let end = done ++ run in
        let there : k + 6 ≡ length end = omega (arith, length-append done run) in
        fit_append qs run done (conj k (k + 5) ∷ further_fives p q (k + 6) (i + 1) m) (five_fits i (omega arith) done (k + 1) l) (
          (is_more done run k f, subst (Is AFormula end) (omega arith) (five_end i done (k + 1) l)),
          further_fits m (i + 1) (omega arith) (end ++ conj k (k + 5) ∷ []) (k + 6) (is_new end (conj k (k + 5)) (k + 6) there refl)
              (omega (arith, length-append end (conj k (k + 5) ∷ []))),
        )

    further_tail : (m i k : ℕ) (front : List Node) (final : Node) → sort final ≡ Some AFormula → Tail (Some AFormula) (front ++ final ∷ further_fives p q k i m)
    unfolding further_fives
    further_tail zero i k front final s = record { front = front; final = final; is = refl; sorted = s }
    further_tail (suc m) i k front final s =
        subst (Tail (Some AFormula)) (append_assoc front (final ∷ five p q (k + 1) i) _)
        (further_tail m (i + 1) (k + 6) (front ++ final ∷ five p q (k + 1) i) (conj k (k + 5)) refl)

    constraint_fits : 0 < n → (done : List Node) (k : ℕ) → k ≡ length done → AllFit qs done (constraint p q k n)
    unfolding constraint five
    constraint_fits h done k l =
        fit_append qs (five p q k 0) done (further_fives p q (k + 4) 1 (n - 1)) (five_fits 0 h done k l)
        (further_fits (n - 1) 1 (omega arith) (done ++ five p q k 0) (k + 4) (five_end 0 done k l) (omega (arith, length-append done (five p q k 0))))

    constraint_tail : (k : ℕ) → Tail (Some AFormula) (constraint p q k n)
    unfolding constraint five
    constraint_tail k = further_tail (n - 1) 1 (k + 4) (region_node p 0 ∷ region_node q 0 ∷ region_node q 1 ∷ sum (k + 1) (k + 2) ∷ []) (equal k (k + 3)) refl

  -- a body's nodes fit, and its root is a formula
  abbrev Sound : Body → Type 0
  Sound b = AllFit qs [] b.nodes × Is AFormula b.nodes b.root

  -- the constraint of one more set
  module _ (inq : List Quantifier) (f : Frame) (fr : Framed inq f) (reach : f.next + dbl f.regions ≤ length qs) where
    parents_fit : (r : ℕ) → r < f.regions → (done : List Node) → Fits qs done (region_node f.place r)
    parents_fit = region_fits qs free f.place f.regions f.next fr.placed (omega arith)

    children_fit : (r : ℕ) → r < dbl f.regions → (done : List Node) → Fits qs done (region_node (counts f.next) r)
    children_fit = region_fits qs free (counts f.next) (dbl f.regions) (f.next + dbl f.regions) (omega arith) reach

    split_fits : (done : List Node) → AllFit qs done (split_run f (length done))
    unfolding split_run
    split_fits done = constraint_fits f.place (counts f.next) f.regions parents_fit children_fit fr.some done (length done) refl

    split_tail : (k : ℕ) → Tail (Some AFormula) (split_run f k)
    unfolding split_run
    split_tail k = constraint_tail f.place (counts f.next) f.regions parents_fit children_fit k

  module _ (run : List Node) (b : Body) (h : Sound b) (fits : AllFit qs b.nodes run) (tail : Tail (Some AFormula) run) where
    abbrev all : List Node
    all = b.nodes ++ run

    all_fits : AllFit qs [] all
    all_fits = fit_append qs b.nodes [] run h.0 fits

    all_end : Is AFormula all (last 0 all)
    all_end = subst (Is AFormula all) (omega (arith, length-append b.nodes run)) (tail_is b.nodes run tail)

    all_root : Is AFormula all b.root
    all_root = is_more b.nodes run b.root h.1

    some_sound : Sound (join_some run b)
    unfolding join_some
    some_sound = (fit_append qs all [] _ all_fits ((all_end, all_root), tt), is_new all _ (length all) refl refl)

    all_sound : Sound (join_all run b)
    unfolding join_all
    all_sound =
        let one = all ++ neg (last 0 all) ∷ [] in (
          fit_append qs all [] _ all_fits (all_end, ((is_new all (neg (last 0 all)) (length all) refl refl, is_more all (neg (last 0 all) ∷ []) b.root all_root), tt)),
          subst (λ l. Is AFormula l (length all + 1)) (append_assoc all (neg (last 0 all) ∷ []) (disj (length all) b.root ∷ []))
              (is_new one (disj (length all) b.root) (length all + 1) (omega (arith, length-append all (neg (last 0 all) ∷ []))) refl),
        )

  join_sound : (done : List Quantifier) (f : Frame) → Framed done f → (q : Quantifier) → (inside f q).next ≤ length qs → (b : Body) → Sound b → Sound (join f q b)
  unfolding with_set
  join_sound done f fr (int_q some) l b h = h
  join_sound done f fr (set_q true) l b h = some_sound _ b h (split_fits done f fr l b.nodes) (split_tail done f fr l (length b.nodes))
  join_sound done f fr (set_q false) l b h = all_sound _ b h (split_fits done f fr l b.nodes) (split_tail done f fr l (length b.nodes))
  join_sound done f fr (count_q some) l b h = h

  close_sound : (inner done : List Quantifier) (f : Frame) → Framed done f → (inside_all f inner).next ≤ length qs → (b : Body) → Sound b → Sound (close f inner b)
  unfolding close inside_all
  close_sound [] done f fr l b h = h
  close_sound (q ∷ inner) done f fr l b h =
      join_sound done f fr q (omega (arith, next_is inner (inside f q))) (close (inside f q) inner b)
      (close_sound inner (done ++ q ∷ []) (inside f q) (framed_inside done f fr q) l b h)

-- ---- the emission

pub emission_sorted : (c : Claim) → WellSorted c → WellSorted (emission c)
unfolding emission body nothing start
emission_sorted c h =
    let qs = c.quantifiers in
    let out = emit_quantifiers start qs in
    let f = inside_all start qs in
    let reach : f.next ≤ length out = omega (arith, next_is qs start) in
    let free : sets out ≡ 0 = no_sets_emit qs start in
    close_sound out free qs [] start framed_start reach (body c) (
      nodes_fit out free qs f (framed_all qs [] start framed_start) reach c.nodes [] nothing shaped_none h.0 tt,
      (shaped_all f c.nodes [] nothing shaped_none).placed AFormula tt c.root h.1,
    )
