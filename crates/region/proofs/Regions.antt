-- The laws of regions: what one more set does to the counts, 003's Lemma 1 (any split of the counts comes from a set), and the ports that a
-- set of regions has. For every number of sets. Assumes nothing.
use mathlib.Core.Path.{◌≡◌, refl, sym, ◌∙◌, ap, ap₂, fun_ext}
use mathlib.Core.Logic.{◌≢◌}
use mathlib.Core.Bool.{Bool, true, false, not, ◌&&◌, ◌||◌, beq, and-true, and-false}
use mathlib.Core.List.{List, [], ◌∷◌}
use Prim.Native.Nat.{ℕ, zero, suc, ◌+◌, ◌*◌, ◌%◌, ◌<◌, ◌≤◌, min}
use native.Mathlib.Decide.{ℕ_discrete}
use native.Mathlib.Nat.{zero-add, add-zero}
use native.Mathlib.Numerals.{add-one}
use native.Mathlib.Omega.{arith}
use lib.Dec.{T, eqb, ltb, ltb→lt, nltb→le, eqb→eq, eqb_refl, eqb-suc-suc, eqb-suc-zero}
use lib.ListN.{length, get_or}
use Rattle.checker.specs.Words.{tab}
use Rattle.checker.specs.Meaning.{Set, bit, count, every}
use Rattle.region.specs.Regions.{deeper, half, odd, tally, tallies, dbl, Split, minus, part, over}

pub dbl_is : (n : ℕ) → dbl n ≡ 2 * n
dbl_is zero = refl
dbl_is (suc n) = omega (arith, dbl_is n)

-- Of the two regions that region m is split into: which region was split, and which one is inside.
pub double_half : (m : ℕ) (b : Bool) → half (2 * m + bit b) ≡ m
double_half m true = omega arith
double_half m false = omega arith

pub double_odd : (m : ℕ) (b : Bool) → odd (2 * m + bit b) ≡ b
double_odd m true = let one : (2 * m + 1) % 2 ≡ 1 = omega arith in rw one
double_odd m false = let none : (2 * m + 0) % 2 ≡ 0 = omega arith in rw none

-- ---- one port

-- 1 where two numbers are the same
hit : ℕ → ℕ → ℕ
hit m i = bit (eqb m i)

hit_yes : (m i : ℕ) → m ≡ i → hit m i ≡ 1
unfolding hit
hit_yes m i e = go (eqb m i) (rw e (eqb_refl i))
  where
    go : (b : Bool) → T b → bit b ≡ 1
    go true t = refl
    go false t = absurd t

hit_no : (m i : ℕ) → m ≢ i → hit m i ≡ 0
unfolding hit
hit_no m i h = go (eqb m i) (eqb→eq m i)
  where
    go : (b : Bool) → (T b → m ≡ i) → bit b ≡ 0
    go true f = absurd (h (f tt))
    go false f = refl

-- Only the regions of the N ports matter.
tally_same : (N : ℕ) (r s : ℕ → ℕ) → ((p : ℕ) → p < N → r p ≡ s p) → (i : ℕ) → tally N r i ≡ tally N s i
unfolding tally count hit
tally_same zero r s h i = refl
tally_same (suc N) r s h i =
    ap₂ ◌+◌ (tally_same N r s (λ p l. h p (omega arith)) i) (ap (λ m. hit m i) (h N (omega arith)))

pub tallies_same : (n N : ℕ) (r s : ℕ → ℕ) → ((p : ℕ) → p < N → r p ≡ s p) → tallies n N r ≡ tallies n N s
unfolding tallies
tallies_same n N r s h = ap (tab n) (fun_ext (tally_same N r s h))

-- ---- one more set: a region's two parts

hit_parts : (m : ℕ) (b : Bool) (i : ℕ) → hit (2 * m + bit b) (2 * i) + hit (2 * m + bit b) (2 * i + 1) ≡ hit m i
hit_parts m b i = go b (ℕ_discrete m i)
  where
    go : (b : Bool) → Dec (m ≡ i) → hit (2 * m + bit b) (2 * i) + hit (2 * m + bit b) (2 * i + 1) ≡ hit m i
    go false (yes e) =
        omega (arith, hit_yes m i e, hit_yes (2 * m + 0) (2 * i) (omega arith), hit_no (2 * m + 0) (2 * i + 1) (omega arith))
    go false (no f) =
        omega (arith, hit_no m i f, hit_no (2 * m + 0) (2 * i) (omega arith), hit_no (2 * m + 0) (2 * i + 1) (omega arith))
    go true (yes e) =
        omega (arith, hit_yes m i e, hit_no (2 * m + 1) (2 * i) (omega arith), hit_yes (2 * m + 1) (2 * i + 1) (omega arith))
    go true (no f) =
        omega (arith, hit_no m i f, hit_no (2 * m + 1) (2 * i) (omega arith), hit_no (2 * m + 1) (2 * i + 1) (omega arith))

pub tally_parts : (N : ℕ) (r : ℕ → ℕ) (y : Set) (i : ℕ) → tally N (deeper r y) (2 * i) + tally N (deeper r y) (2 * i + 1) ≡ tally N r i
unfolding tally count deeper hit
tally_parts zero r y i = refl
tally_parts (suc N) r y i = omega (arith, tally_parts N r y i, hit_parts (r N) (y N) i)

-- ---- 003's Lemma 1: any choice of how many ports of each region are inside comes from a set

-- The first k i ports of each region i.
unfoldable pub first : (ℕ → ℕ) → (ℕ → ℕ) → Set
first r k p = ltb (tally p r (r p)) (k (r p))

first_step : (m i t k : ℕ) (b : Bool) → Dec (m ≡ i) → (m ≡ i → T b → t < k) → (m ≡ i → T (not b) → k ≤ t)
    → min k t + hit (2 * m + bit b) (2 * i + 1) ≡ min k (t + hit m i)
first_step m i t k true (yes e) f g =
    let h : t < k = f e tt in
    omega (arith, hit_yes m i e, hit_yes (2 * m + 1) (2 * i + 1) (omega arith))
first_step m i t k false (yes e) f g =
    let h : k ≤ t = g e tt in
    omega (arith, hit_yes m i e, hit_no (2 * m + 0) (2 * i + 1) (omega arith))
first_step m i t k true (no d) f g = omega (arith, hit_no m i d, hit_no (2 * m + 1) (2 * i + 1) (omega arith))
first_step m i t k false (no d) f g = omega (arith, hit_no m i d, hit_no (2 * m + 0) (2 * i + 1) (omega arith))

pub tally_first : (N : ℕ) (r k : ℕ → ℕ) (i : ℕ) → tally N (deeper r (first r k)) (2 * i + 1) ≡ min (k i) (tally N r i)
unfolding tally count deeper hit first
tally_first zero r k i = omega arith
tally_first (suc N) r k i =
    ap (λ (t : ℕ). t + hit (2 * r N + bit (first r k N)) (2 * i + 1)) (tally_first N r k i)
    ∙ first_step (r N) i (tally N r i) (k i) (first r k N) (ℕ_discrete (r N) i)
    (λ e u. rw e at (ltb→lt (tally N r (r N)) (k (r N)) u))
    (λ e u. rw e at (nltb→le (tally N r (r N)) (k (r N)) u))

-- ---- lists of counts

pub twice_suc : (i : ℕ) → 2 * suc i ≡ suc (suc (2 * i))
twice_suc i = omega arith

pub twice_suc_one : (i : ℕ) → 2 * suc i + 1 ≡ suc (suc (2 * i + 1))
twice_suc_one i = omega arith

-- Both parts of all regions at once.
tab-split : (n : ℕ) (g f : ℕ → ℕ) → ((i : ℕ) → f (2 * i) + f (2 * i + 1) ≡ g i) → Split (tab n g) (tab (dbl n) f)
tab-split zero g f h = tt
tab-split (suc n) g f h =
    (sym (h 0), tab-split n (λ i. g (suc i)) (λ i. f (suc (suc i))) (λ i. rw (twice_suc_one i, twice_suc i) at (h (suc i))))

pub tallies-split : (n N : ℕ) (r : ℕ → ℕ) (y : Set) → Split (tallies n N r) (tallies (dbl n) N (deeper r y))
unfolding tallies
tallies-split n N r y = tab-split n (tally N r) (tally N (deeper r y)) (tally_parts N r y)

-- Lemma 1 for all regions at once.
tab-join : (n : ℕ) (g f : ℕ → ℕ) (ls : List ℕ) → Split (tab n g) ls → ((i : ℕ) → f (2 * i) + f (2 * i + 1) ≡ g i)
    → ((i : ℕ) → f (2 * i + 1) ≡ min (get_or ls (2 * i + 1) 0) (g i)) → tab (dbl n) f ≡ ls
tab-join zero g f [] s h k = refl
tab-join zero g f (l ∷ ls) s h k = absurd s
tab-join (suc n) g f [] s h k = absurd s
tab-join (suc n) g f (a ∷ []) s h k = absurd s
tab-join (suc n) g f (a ∷ b ∷ ls) (e, s) h k =
    let inside : f 1 ≡ b = omega (arith, h 0, k 0) in
    let outside : f 0 ≡ a = omega (arith, h 0) in
    let rest : tab (dbl n) (λ i. f (suc (suc i))) ≡ ls =
    tab-join n (λ i. g (suc i)) (λ i. f (suc (suc i))) ls s (λ i. rw (twice_suc_one i, twice_suc i) at (h (suc i)))
    (λ i. rw (twice_suc_one i) at (k (suc i))) in
    cc

-- The set that splits the counts as `ls` does.
unfoldable pub splitter : (ℕ → ℕ) → List ℕ → Set
splitter r ls = first r (λ i. get_or ls (2 * i + 1) 0)

pub tallies_splitter : (n N : ℕ) (r : ℕ → ℕ) (ls : List ℕ) → Split (tallies n N r) ls → tallies (dbl n) N (deeper r (splitter r ls)) ≡ ls
unfolding tallies splitter
tallies_splitter n N r ls s =
    tab-join n (tally N r) (tally N (deeper r (splitter r ls))) ls s (tally_parts N r (splitter r ls))
    (tally_first N r (λ i. get_or ls (2 * i + 1) 0))

-- ---- the ports of a set are those of the regions that it covers

part_add : (b : Bool) (x y u v : ℕ) {s : ℕ} → s ≡ u + v → part b (x + y) + s ≡ part b x + u + (part b y + v)
part_add true x y u v h = omega arith
part_add false x y u v h = omega arith

over_add : (n : ℕ) (w : Set) (f g : ℕ → ℕ) → over w (tab n (λ i. f i + g i)) ≡ over w (tab n f) + over w (tab n g)
unfolding over
over_add zero w f g = refl
over_add (suc n) w f g = part_add (w zero) (f 0) (g 0) _ _ (over_add n (λ i. w (suc i)) (λ i. f (suc i)) (λ i. g (suc i)))

part-zero : (b : Bool) → part b 0 ≡ 0
part-zero true = refl
part-zero false = refl

over_zero : (n : ℕ) (w : Set) → over w (tab n (λ i. 0)) ≡ 0
unfolding over
over_zero zero w = refl
over_zero (suc n) w = rw (part-zero (w zero), over_zero n (λ i. w (suc i)))

part_one : (b : Bool) → part b 1 + 0 ≡ bit b
part_one true = refl
part_one false = refl

hit_suc : (m i : ℕ) → hit (suc m) (suc i) ≡ hit m i
unfolding hit
hit_suc m i = ap bit (eqb-suc-suc m i)

over_hit : (n : ℕ) (w : Set) (m : ℕ) → m < n → over w (tab n (hit m)) ≡ bit (w m)
unfolding over
over_hit zero w m h = absurd (omega arith)
over_hit (suc n) w zero h =
    let e : ◌≡◌ {A = ℕ → ℕ} (λ i. hit zero (suc i)) (λ i. 0) = fun_ext (λ i. hit_no zero (suc i) (omega arith)) in
    rw (hit_yes zero zero refl, e, over_zero n (λ i. w (suc i))) (part_one (w zero))
over_hit (suc n) w (suc m) h =
    let e : ◌≡◌ {A = ℕ → ℕ} (λ i. hit (suc m) (suc i)) (hit m) = fun_ext (λ i. hit_suc m i) in
    rw (hit_no (suc m) zero (omega arith), e, part-zero (w zero), over_hit n (λ i. w (suc i)) m (omega arith)) (zero-add (bit (w (suc m))))

pub over_tallies : (n N : ℕ) (r : ℕ → ℕ) → ((p : ℕ) → r p < n) → (w : Set) → over w (tallies n N r) ≡ count N (λ p. w (r p))
unfolding tallies tally count hit
over_tallies n zero r h w = over_zero n w
over_tallies n (suc N) r h w =
    over_add n w (tally N r) (hit (r N)) ∙ ap₂ ◌+◌ (over_tallies n N r h w) (over_hit n w (r N) (h N))

-- all ports
pub count_all : (N : ℕ) → count N (λ p. true) ≡ N
unfolding count
count_all zero = refl
count_all (suc N) = omega (arith, count_all N)

pub tallies_total : (n N : ℕ) (r : ℕ → ℕ) → ((p : ℕ) → r p < n) → over (λ i. true) (tallies n N r) ≡ N
tallies_total n N r h = over_tallies n N r h (λ i. true) ∙ count_all N

-- ---- splits

-- A split makes two regions of each.
pub split_doubles : (cs ls : List ℕ) → Split cs ls → length ls ≡ dbl (length cs)
split_doubles [] [] s = refl
split_doubles [] (l ∷ ls) s = absurd s
split_doubles (c ∷ cs) [] s = absurd s
split_doubles (c ∷ cs) (a ∷ []) s = absurd s
split_doubles (c ∷ cs) (a ∷ b ∷ ls) (e, s) = ap (λ n. suc (suc n)) (split_doubles cs ls s)

-- The region counts add up to the same after every split.
pub split_total : (cs ls : List ℕ) → Split cs ls → over (λ i. true) ls ≡ over (λ i. true) cs
unfolding over
split_total [] [] s = refl
split_total [] (l ∷ ls) s = absurd s
split_total (c ∷ cs) [] s = absurd s
split_total (c ∷ cs) (a ∷ []) s = absurd s
split_total (c ∷ cs) (a ∷ b ∷ ls) (e, s) = omega (arith, e, split_total cs ls s)

-- ---- one set lies in another where their difference is empty, and is the same where both differences are

every_none : (N : ℕ) (s : Set) → every N (λ p. not (s p)) ≡ eqb (count N s) 0
unfolding every count
every_none zero s = refl
every_none (suc N) s = go (s N) (count N s) (every_none N s)
  where
    go : (b : Bool) (k : ℕ) → every N (λ p. not (s p)) ≡ eqb k 0 → (every N (λ p. not (s p)) && not b) ≡ eqb (k + bit b) 0
    go true k e = rw (add-one k, eqb-suc-zero k) (and-false (every N (λ p. not (s p))))
    go false k e = rw (add-zero k) (and-true (every N (λ p. not (s p))) ∙ e)

every-and : (N : ℕ) (s t : Set) → every N (λ p. s p && t p) ≡ (every N s && every N t)
unfolding every
every-and zero s t = refl
every-and (suc N) s t = rw (every-and N s t) (go (every N s) (every N t) (s N) (t N))
  where
    go : (a b c d : Bool) → ((a && b) && (c && d)) ≡ ((a && c) && (b && d))
    go true true c d = refl
    go true false true d = refl
    go true false false d = refl
    go false b c d = refl

pub within_empty : (N : ℕ) (a b : Set) → every N (λ p. not (a p) || b p) ≡ eqb (count N (minus a b)) 0
within_empty N a b = ap (every N) (fun_ext (λ p. go (a p) (b p))) ∙ every_none N (minus a b)
  where
    go : (x y : Bool) → (not x || y) ≡ not (x && not y)
    go true true = refl
    go true false = refl
    go false y = refl

pub same_empty : (N : ℕ) (a b : Set)
    → every N (λ p. beq (a p) (b p)) ≡ (eqb (count N (minus a b)) 0 && eqb (count N (minus b a)) 0)
same_empty N a b =
    ap (every N) (fun_ext (λ p. go (a p) (b p))) ∙ every-and N (λ p. not (a p) || b p) (λ p. not (b p) || a p)
    ∙ ap₂ ◌&&◌ (within_empty N a b) (within_empty N b a)
  where
    go : (x y : Bool) → beq x y ≡ ((not x || y) && (not y || x))
    go true true = refl
    go true false = refl
    go false true = refl
    go false false = refl
