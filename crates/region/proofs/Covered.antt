-- The regions of a range that a set covers, as a rising list, and how many ports they have. For every number of regions.
-- Assumes nothing.
use mathlib.Core.Path.{◌≡◌, refl, sym, ◌∙◌, ap, ap₂}
use mathlib.Core.Bool.{Bool, true, false, not, cond, xor, ◌&&◌, and-true}
use mathlib.Core.List.{List, [], ◌∷◌, ◌++◌, map, append-nil}
use Prim.Native.Nat.{ℕ, zero, suc, ◌+◌, ◌-◌, ◌≤◌, ◌<◌}
use native.Mathlib.Nat.{add-suc, suc-add, add-zero, zero-add}
use native.Mathlib.Omega.{arith}
use lib.Dec.{eqb, ltb, eqb-zero-suc, eqb-suc-zero, eqb-suc-suc}
use lib.ListN.{length, get_or}
use borrow.Author.Tests.{lt-ltb, le-ltb}
use Rattle.checker.specs.Meaning.{Set}
use Rattle.region.specs.Regions.{covered, over, part, minus}

-- ---- the rising list

-- only the regions of the range matter
pub covered_same : (n i : ℕ) (a b : Set) → ((r : ℕ) → i ≤ r → r < i + n → a r ≡ b r) → covered i n a ≡ covered i n b
unfolding covered
covered_same zero i a b h = refl
covered_same (suc n) i a b h =
    ap₂ (λ (x : Bool) (l : List ℕ). cond x (i ∷ l) l) (h i (omega arith) (omega arith))
    (covered_same n (suc i) a b (λ r l m. h r (omega arith) (omega arith)))

pub covered_none : (n i : ℕ) (w : Set) → ((r : ℕ) → i ≤ r → r < i + n → w r ≡ false) → covered i n w ≡ []
unfolding covered
covered_none zero i w h = refl
covered_none (suc n) i w h =
    ap₂ (λ (x : Bool) (l : List ℕ). cond x (i ∷ l) l) (h i (omega arith) (omega arith))
    (covered_none n (suc i) w (λ r l m. h r (omega arith) (omega arith)))

-- two ranges, one after the other
pub covered-append : (m n i : ℕ) (w : Set) → covered i (m + n) w ≡ covered i m w ++ covered (i + m) n w
unfolding covered
covered-append zero n i w = rw (zero-add, add-zero)
covered-append (suc m) n i w =
    rw (suc-add m n, covered-append m n (suc i) w, suc-add i m, ← add-suc i m) (go (w i) (covered (suc i) m w) _)
  where
    go : (b : Bool) (l k : List ℕ) → cond b (i ∷ l ++ k) (l ++ k) ≡ cond b (i ∷ l) l ++ k
    go true l k = refl
    go false l k = refl

-- a range that starts c higher
pub covered_shift : (n c i : ℕ) (w : Set) → covered (c + i) n w ≡ map (λ r. c + r) (covered i n (λ r. w (c + r)))
unfolding covered
covered_shift zero c i w = refl
covered_shift (suc n) c i w = rw (← add-suc c i, covered_shift n c (suc i) w) (go (w (c + i)) _)
  where
    go : (b : Bool) (l : List ℕ) → cond b ((c + i) ∷ map (λ r. c + r) l) (map (λ r. c + r) l) ≡ map (λ r. c + r) (cond b (i ∷ l) l)
    go true l = refl
    go false l = refl

-- the first region that is covered, and then the range above it
pub covered_first : (n i t : ℕ) (w : Set) → t < n → w (i + t) ≡ true → ((r : ℕ) → i ≤ r → r < i + t → w r ≡ false)
    → covered i n w ≡ (i + t) ∷ covered (suc (i + t)) (n - suc t) w
unfolding covered
covered_first n i t w h e under =
    let parts : n ≡ t + suc (n - suc t) = omega arith in
    ap (λ (m : ℕ). covered i m w) parts ∙ covered-append t (suc (n - suc t)) i w ∙ rw (covered_none t i w under, e)

-- a set without the regions from m on
pub covered_within : (m n : ℕ) (w : Set) → m ≤ n → covered 0 n (λ r. ltb r m && w r) ≡ covered 0 m w
covered_within m n w h =
    let parts : n ≡ m + (n - m) = omega arith in
    let cut : Set = λ r. ltb r m && w r in
    ap (λ (l : ℕ). covered 0 l cut) parts ∙ covered-append m (n - m) 0 cut
    ∙ rw (covered_none (n - m) (0 + m) cut (λ r l _. rw (le-ltb r m (omega arith)))) (append-nil (covered 0 m cut))
    ∙ covered_same m 0 cut w (λ r _ l. rw (lt-ltb r m (omega arith)))

pub covered_le : (n i : ℕ) (w : Set) → length (covered i n w) ≤ n
unfolding covered
covered_le zero i w = omega arith
covered_le (suc n) i w = go (w i) (covered (suc i) n w) (covered_le n (suc i) w)
  where
    go : (b : Bool) (l : List ℕ) → length l ≤ n → length (cond b (i ∷ l) l) ≤ suc n
    go true l h = omega arith
    go false l h = omega arith

-- two differences have no region in common
pub covered_apart : (n i : ℕ) (a b : Set) → length (covered i n (minus a b)) + length (covered i n (minus b a)) ≤ n
unfolding covered
covered_apart zero i a b = omega arith
covered_apart (suc n) i a b = go (a i) (b i) (covered (suc i) n (minus a b)) (covered (suc i) n (minus b a)) (covered_apart n (suc i) a b)
  where
    go : (x y : Bool) (l k : List ℕ) → length l + length k ≤ n
        → length (cond (x && not y) (i ∷ l) l) + length (cond (y && not x) (i ∷ k) k) ≤ suc n
    go true true l k h = omega arith
    go true false l k h = omega arith
    go false true l k h = omega arith
    go false false l k h = omega arith

-- ---- the ports

-- only the regions that there are matter
pub over_same : (cs : List ℕ) (a b : Set) → ((r : ℕ) → r < length cs → a r ≡ b r) → over a cs ≡ over b cs
unfolding over
over_same [] a b h = refl
over_same (c ∷ cs) a b h =
    ap₂ (λ (x : Bool) (n : ℕ). part x c + n) (h 0 (omega arith))
    (over_same cs (λ r. a (suc r)) (λ r. b (suc r)) (λ r l. h (suc r) (omega arith)))

pub over_none : (cs : List ℕ) (w : Set) → ((r : ℕ) → r < length cs → w r ≡ false) → over w cs ≡ 0
unfolding over
over_none [] w h = refl
over_none (c ∷ cs) w h =
    ap₂ (λ (x : Bool) (n : ℕ). part x c + n) (h 0 (omega arith)) (over_none cs (λ r. w (suc r)) (λ r l. h (suc r) (omega arith)))

-- the counts of some regions, and then those of others
pub over-append : (cs ds : List ℕ) (w : Set) → over w (cs ++ ds) ≡ over w cs + over (λ r. w (length cs + r)) ds
unfolding over
over-append [] ds w = over_same ds w (λ r. w (0 + r)) (λ r _. rw (zero-add r)) ∙ sym (zero-add (over (λ r. w (0 + r)) ds))
over-append (c ∷ cs) ds w =
    let rest : over (λ r. w (suc (length cs + r))) ds ≡ over (λ r. w (suc (length cs) + r)) ds =
    over_same ds (λ r. w (suc (length cs + r))) (λ r. w (suc (length cs) + r)) (λ r _. rw (suc-add (length cs) r)) in
    omega (arith, over-append cs ds (λ r. w (suc r)), rest)

-- a set without the regions that there are not
pub over_cut : (m : ℕ) (w : Set) (counts : List ℕ) → length counts ≡ m → over (λ r. ltb r m && w r) counts ≡ over w counts
over_cut m w counts e = over_same counts (λ r. ltb r m && w r) w (λ r h. rw (lt-ltb r m (omega arith)))

pub over_le : (cs : List ℕ) (w : Set) → over w cs ≤ over (λ r. true) cs
unfolding over
over_le [] w = omega arith
over_le (c ∷ cs) w = go (w 0) (over_le cs (λ r. w (suc r)))
  where
    go : (b : Bool) → over (λ r. w (suc r)) cs ≤ over (λ r. true) cs → part b c + over (λ r. w (suc r)) cs ≤ c + over (λ r. true) cs
    go true h = omega arith
    go false h = omega arith

-- one region of the set, and the others
pub over_without : (cs : List ℕ) (w : Set) (t : ℕ) → t < length cs → w t ≡ true
    → over w cs ≡ get_or cs t 0 + over (λ r. w r && not (eqb r t)) cs
unfolding over
over_without [] w t h e = absurd (omega arith)
over_without (c ∷ cs) w zero h e =
    let rest : over (λ r. w (suc r)) cs ≡ over (λ r. w (suc r) && not (eqb (suc r) 0)) cs =
    over_same cs (λ r. w (suc r)) (λ r. w (suc r) && not (eqb (suc r) 0)) (λ r _. rw (eqb-suc-zero r) (sym (and-true (w (suc r))))) in
    rw e (ap (λ (n : ℕ). c + n) (rest ∙ sym (zero-add _)))
over_without (c ∷ cs) w (suc t) h e =
    let rest : over (λ r. w (suc r) && not (eqb r t)) cs ≡ over (λ r. w (suc r) && not (eqb (suc r) (suc t))) cs =
    over_same cs (λ r. w (suc r) && not (eqb r t)) (λ r. w (suc r) && not (eqb (suc r) (suc t))) (λ r _. rw (eqb-suc-suc r t)) in
    let first : part (w 0 && not (eqb 0 (suc t))) c ≡ part (w 0) c = rw (eqb-zero-suc t, and-true (w 0)) in
    omega (arith, over_without cs (λ r. w (suc r)) t (omega arith) e, rest, first)

-- the regions in exactly one of two sets: two differences
pub over_exclusive : (cs : List ℕ) (a b : Set) → over (λ r. xor (a r) (b r)) cs ≡ over (minus a b) cs + over (minus b a) cs
unfolding over xor
over_exclusive [] a b = refl
over_exclusive (c ∷ cs) a b = go (a 0) (b 0) _ _ (over_exclusive cs (λ r. a (suc r)) (λ r. b (suc r)))
  where
    go : (x y : Bool) {l : ℕ} (m n : ℕ) → l ≡ m + n → part (xor x y) c + l ≡ part (x && not y) c + m + (part (y && not x) c + n)
    go true true m n h = omega arith
    go true false m n h = omega arith
    go false true m n h = omega arith
    go false false m n h = omega arith
