-- What the emission's runs come to: a cardinality is the sum of its regions' counts, a constraint says that each region is the sum of its parts.
-- Assumes nothing.
use mathlib.Core.Path.{◌≡◌, refl, sym, ◌∙◌, ap, ap₂, subst}
use mathlib.Core.Bool.{Bool, true, false, cond, ◌&&◌}
use mathlib.Core.List.{List, [], ◌∷◌, ◌++◌}
use Prim.Native.Nat.{ℕ, zero, suc, ◌+◌, ◌*◌, ◌-◌, ◌<◌, ◌≤◌}
use native.Mathlib.Nat.{zero-add, add-zero, add-suc, suc-add, add_assoc}
use native.Mathlib.Numerals.{add-one}
use native.Mathlib.Omega.{arith}
use lib.Dec.{eqb}
use lib.IntN.{pos, ◌+ℤ◌}
use lib.ListN.{length, get_or, length-append}
use Rattle.checker.specs.Words.{tab}
use Rattle.checker.specs.Meaning.{Set, Value, num_at, truth_at, eq_z, World, value_of, values, every, num, truth}
use Rattle.region.specs.Regions.{part, over, covered}
use Rattle.emission.specs.Emission.{Place, sum_run, card_run, last, empty_run, both_run, five, further_fives, constraint}
use Rattle.reducer.proofs.Lists.{new_at, old_at}
use Rattle.reducer.proofs.Ends.{no_value, Ends, before-length, ends_step, ends_one, ends-append, ends_keep, amount, region_value, num_at_lem, truth_at_lem, sum_value}

-- ---- cardinality

-- f r for each r of rs, together
unfoldable pub total : (ℕ → ℕ) → List ℕ → ℕ
total f [] = 0
total f (r ∷ rs) = f r + total f rs

abbrev pub Below : ℕ → List ℕ → Type 0
Below n [] = Unit {0}
Below n (r ∷ rs) = (r < n) × Below n rs

covered_under : (m i n : ℕ) (w : Set) → i + n ≤ m → Below m (covered i n w)
unfolding covered
covered_under m i zero w h = tt
covered_under m i (suc n) w h = go (w i) (covered_under m (suc i) n w (omega arith))
  where
    go : (b : Bool) → Below m (covered (suc i) n w) → Below m (cond b (i ∷ covered (suc i) n w) (covered (suc i) n w))
    go true t = (omega arith, t)
    go false t = t

pub covered_below : (n : ℕ) (w : Set) → Below n (covered 0 n w)
covered_below n w = covered_under n 0 n w (omega arith)

total_covered : (f : ℕ → ℕ) (i n : ℕ) (w : Set) → total f (covered i n w) ≡ over (λ r. w (i + r)) (tab n (λ r. f (i + r)))
unfolding total covered over
total_covered f i zero w = refl
total_covered f i (suc n) w = simp (add-zero, add-suc) (go (w i) (simp suc-add at (total_covered f (suc i) n w)))
  where
    go : (b : Bool) {s : ℕ} → total f (covered (suc i) n w) ≡ s → total f (cond b (i ∷ covered (suc i) n w) (covered (suc i) n w)) ≡ part b (f i) + s
    go true e = ap (λ s. f i + s) e
    go false e = e ∙ sym (zero-add _)

tab-get_or : (cs : List ℕ) → tab (length cs) (λ r. get_or cs r 0) ≡ cs
tab-get_or [] = refl
tab-get_or (c ∷ cs) = ap (λ l. c ∷ l) (tab-get_or cs)

-- how many ports are in the covered regions
pub total_over : (cs : List ℕ) (n : ℕ) → length cs ≡ n → (p : Set) → total (λ r. get_or cs r 0) (covered 0 n p) ≡ over p cs
total_over cs n l p =
    total_covered (λ r. get_or cs r 0) 0 n p ∙ simp zero-add (ap (over p) (ap (λ n. tab n (λ r. get_or cs r 0)) (sym l) ∙ tab-get_or cs))

module _ (w : World) (us : List Value) (p : Place) (n : ℕ) (f : ℕ → ℕ) (are : (r : ℕ) → r < n → amount w us p r ≡ pos (f r)) where
  -- the nodes that add further regions to a result so far
  sum_ends : (rs : List ℕ) → Below n rs → (ws : List Value) (t k : ℕ) → k ≡ length ws
      → Ends w us (ws ++ num (pos t) ∷ []) (sum_run p k rs) (num (pos (t + total f rs)))
  unfolding sum_run total values
  sum_ends [] b ws t k e = record { before = ws; is = rw (add-zero t) }
  sum_ends (r ∷ rs) (h, b) ws t k e =
      let vs = ws ++ num (pos t) ∷ [] in
      let len : length vs ≡ k + 1 = omega (arith, length-append ws (num (pos t) ∷ [])) in
      let left : num_at (vs ++ num (pos (f r)) ∷ []) k ≡ pos t =
      num_at_lem _ k (pos t) (old_at vs (num (pos (f r)) ∷ []) no_value k (omega arith) ∙ new_at ws (num (pos t)) no_value k e) in
      let right : num_at (vs ++ num (pos (f r)) ∷ []) (k + 1) ≡ pos (f r) = num_at_lem _ (k + 1) (pos (f r)) (new_at vs (num (pos (f r))) no_value (k + 1) (sym len)) in
      ends_step w us (region_value w us vs p r ∙ ap num (are r h))
      (ends_step w us (sum_value w us (vs ++ num (pos (f r)) ∷ []) k (k + 1) left right)
      (rw (← add_assoc) (sum_ends rs b (vs ++ num (pos (f r)) ∷ []) (t + f r) (k + 2) (omega (arith, length-append vs (num (pos (f r)) ∷ []))))))

  pub card_ends : (rs : List ℕ) → Below n rs → (ws : List Value) (k : ℕ) → k ≡ length ws → Ends w us ws (card_run p k rs) (num (pos (total f rs)))
  unfolding card_run total value_of
  card_ends [] b ws k e = ends_one w us refl
  card_ends (r ∷ rs) (h, b) ws k e = ends_step w us (region_value w us ws p r ∙ ap num (are r h)) (sum_ends rs b ws (f r) k e)

  pub empty_ends : (rs : List ℕ) → Below n rs → (ws : List Value) (k : ℕ) → k ≡ length ws → Ends w us ws (empty_run p k rs) (truth (eqb (total f rs) 0))
  unfolding empty_run value_of
  empty_ends rs b ws k e =
      let c = card_ends rs b ws k e in
      let len = before-length w us c in
      let vs = c.before ++ num (pos (total f rs)) ∷ [] in
      let at = last k (card_run p k rs) in
      let here : length vs ≡ k + length (card_run p k rs) = omega (arith, length-append c.before (num (pos (total f rs)) ∷ [])) in
      let left : num_at (vs ++ num (pos 0) ∷ []) at ≡ pos (total f rs) =
      num_at_lem _ at _ (old_at vs (num (pos 0) ∷ []) no_value at (omega arith) ∙ new_at c.before (num (pos (total f rs))) no_value at (omega arith)) in
      let right : num_at (vs ++ num (pos 0) ∷ []) (k + length (card_run p k rs)) ≡ pos 0 =
      num_at_lem _ (k + length (card_run p k rs)) _ (new_at vs (num (pos 0)) no_value _ (sym here)) in
      ends-append w us c (ends_step w us refl (ends_one w us (ap₂ (λ x y. truth (eq_z x y)) left right)))

  pub both_ends : (rs ss : List ℕ) → Below n rs → Below n ss → (ws : List Value) (k : ℕ) → k ≡ length ws
      → Ends w us ws (both_run p k rs ss) (truth (eqb (total f rs) 0 && eqb (total f ss) 0))
  unfolding both_run value_of ends-append
  both_ends rs ss b d ws k e =
      let one = empty_ends rs b ws k e in
      let x : Bool = eqb (total f rs) 0 in
      let y : Bool = eqb (total f ss) 0 in
      let vs = one.before ++ truth x ∷ [] in
      let m : ℕ = k + length (empty_run p k rs) in
      let here : m ≡ length vs = omega (arith, before-length w us one, length-append one.before (truth x ∷ [])) in
      let two = empty_ends ss d vs m here in
      let zs = two.before ++ truth y ∷ [] in
      let left : truth_at zs (last k (empty_run p k rs)) ≡ x =
      truth_at_lem _ _ _ (ends_keep w us two (last k (empty_run p k rs)) (omega (arith, before-length w us one))
      ∙ new_at one.before (truth x) no_value _ (omega (arith, before-length w us one))) in
      let right : truth_at zs (last m (empty_run p m ss)) ≡ y =
      truth_at_lem _ _ _ (new_at two.before (truth y) no_value _ (omega (arith, before-length w us two))) in
      ends-append w us (ends-append w us one two) (ends_one w us (ap₂ (λ s t. truth (s && t)) left right))

-- ---- constraints

module _ (w : World) (us : List Value) (p q : Place) where
  -- parent region i is the sum of its children
  unfoldable pub meets : ℕ → Bool
  meets i = eq_z (amount w us p i) (amount w us q (2 * i) +ℤ amount w us q (2 * i + 1))

  five_ends : (i : ℕ) (ws : List Value) (k : ℕ) → k ≡ length ws → Ends w us ws (five p q k i) (truth (meets i))
  unfolding five meets value_of
  five_ends i ws k e =
      let a = num (amount w us p i) in
      let b = num (amount w us q (2 * i)) in
      let c = num (amount w us q (2 * i + 1)) in
      let d = num (amount w us q (2 * i) +ℤ amount w us q (2 * i + 1)) in
      let one = ws ++ a ∷ [] in
      let two = one ++ b ∷ [] in
      let three = two ++ c ∷ [] in
      let four = three ++ d ∷ [] in
      let h₁ : length one ≡ k + 1 = omega (arith, length-append ws (a ∷ [])) in
      let h₂ : length two ≡ k + 2 = omega (arith, length-append one (b ∷ [])) in
      let h₃ : length three ≡ k + 3 = omega (arith, length-append two (c ∷ [])) in
      let left : num_at three (k + 1) ≡ amount w us q (2 * i) =
      num_at_lem _ _ _ (old_at two (c ∷ []) no_value (k + 1) (omega arith) ∙ new_at one b no_value (k + 1) (sym h₁)) in
      let right : num_at three (k + 2) ≡ amount w us q (2 * i + 1) = num_at_lem _ _ _ (new_at two c no_value (k + 2) (sym h₂)) in
      let parent : num_at four k ≡ amount w us p i =
      num_at_lem _ _ _ (old_at three (d ∷ []) no_value k (omega arith) ∙ old_at two (c ∷ []) no_value k (omega arith) ∙ old_at one (b ∷ []) no_value k (omega arith) ∙ new_at ws a no_value k e) in
      let children : num_at four (k + 3) ≡ amount w us q (2 * i) +ℤ amount w us q (2 * i + 1) = num_at_lem _ _ _ (new_at three d no_value (k + 3) (sym h₃)) in
      ends_step w us (region_value w us ws p i)
      (ends_step w us (region_value w us one q (2 * i))
      (ends_step w us (region_value w us two q (2 * i + 1))
      (ends_step w us (sum_value w us three (k + 1) (k + 2) left right)
      (ends_one w us (ap₂ (λ x y. truth (eq_z x y)) parent children)))))

  -- one more region meets its parts
  every_next : (i : ℕ) → every (i + 1) meets ≡ (every i meets && meets i)
  unfolding every
  every_next i = rw (add-one i)

  further_ends : (n i : ℕ) (ws : List Value) (k : ℕ) → k ≡ length ws
      → Ends w us (ws ++ truth (every i meets) ∷ []) (further_fives p q k i n) (truth (every (i + n) meets))
  unfolding five further_fives values value_of
  further_ends zero i ws k e = record { before = ws; is = rw (add-zero i) }
  further_ends (suc n) i ws k e =
      let vs = ws ++ truth (every i meets) ∷ [] in
      let here : k + 1 ≡ length vs = omega (arith, length-append ws (truth (every i meets) ∷ [])) in
      let f = five_ends i vs (k + 1) here in
      let zs = f.before ++ truth (meets i) ∷ [] in
      let there : k + 5 ≡ length f.before = omega (arith, before-length w us f) in
      let left : truth_at zs k ≡ every i meets = truth_at_lem _ _ _ (ends_keep w us f k (omega arith) ∙ new_at ws (truth (every i meets)) no_value k e) in
      let right : truth_at zs (k + 5) ≡ meets i = truth_at_lem _ _ _ (new_at f.before (truth (meets i)) no_value (k + 5) there) in
      let next : i + 1 + n ≡ i + suc n = omega arith in
      ends-append w us f (ends_step w us (ap truth (ap₂ ◌&&◌ left right ∙ sym (every_next i)))
      (subst (λ m. Ends w us (zs ++ truth (every (i + 1) meets) ∷ []) (further_fives p q (k + 6) (i + 1) n) (truth (every m meets))) next
      (further_ends n (i + 1) zs (k + 6) (omega (arith, length-append f.before (truth (meets i) ∷ []))))))

  pub constraint_ends : (n : ℕ) → 0 < n → (ws : List Value) (k : ℕ) → k ≡ length ws → Ends w us ws (constraint p q k n) (truth (every n meets))
  unfolding constraint five every
  constraint_ends n h ws k e =
      let f = five_ends 0 ws k e in
      let all : 1 + (n - 1) ≡ n = omega arith in
      subst (λ m. Ends w us ws (constraint p q k n) (truth (every m meets))) all
      (ends-append w us f (further_ends (n - 1) 1 f.before (k + 4) (omega (arith, before-length w us f))))
