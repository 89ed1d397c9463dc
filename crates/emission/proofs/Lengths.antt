-- How many regions and quantifiers there are, and how long the emission's runs are.
-- Assumes nothing.
use mathlib.Core.Path.{◌≡◌, refl, sym, ◌∙◌, ap}
use mathlib.Core.Bool.{true, false}
use mathlib.Core.List.{List, [], ◌∷◌}
use Prim.Native.Nat.{ℕ, zero, suc, ◌+◌, ◌*◌, ◌-◌, ◌^◌, ◌<◌, ◌≤◌}
use native.Mathlib.Nat.{add-zero, pow-succ', mul_comm, mul_assoc, mul-one}
use native.Mathlib.Omega.{arith}
use lib.ListN.{length, length-append, replicate, length-replicate}
use Rattle.checker.specs.Claim.{Node, Quantifier, set_var, empty, whole, union, inter, compl, num_var, const, maxc, sum, diff, multiple, card, equal, less, divided, set_equal, subset, conj, disj, neg, unknown, int_q, set_q, count_q}
use Rattle.checker.specs.Sorts.{sets}
use Rattle.checker.specs.Meaning.{Set}
use Rattle.region.specs.Regions.{dbl, minus, covered}
use Rattle.region.proofs.Regions.{dbl_is}
use Rattle.region.proofs.Covered.{covered_le, covered_apart}
use Rattle.emission.specs.Emission.{Place, Frame, with_number, with_set, inside_all, becomes, emit_quantifiers, sum_run, card_run, empty_run, both_run, run_of, five, further_fives, constraint, Body, split_run, join_some, join_all, close, counts}
use Rattle.emission.specs.Sizes.{all_sets}

-- ---- quantifiers

twice_power : (n k : ℕ) {r : ℕ} → r ≡ dbl n * 2 ^ k → r ≡ n * 2 ^ suc k
twice_power n k h =
    h ∙ ap (λ x. x * 2 ^ k) (dbl_is n ∙ mul_comm 2 n) ∙ mul_assoc n 2 (2 ^ k) ∙ ap (λ x. n * x) (sym (pow-succ' 2 k))

-- R = 2 ^ S
pub regions_power : (qs : List Quantifier) (f : Frame) → (inside_all f qs).regions ≡ f.regions * 2 ^ sets qs
unfolding inside_all sets with_number with_set
regions_power [] f = sym (mul-one f.regions)
regions_power (int_q some ∷ qs) f = regions_power qs (with_number f)
regions_power (set_q some ∷ qs) f = twice_power f.regions (sets qs) (regions_power qs (with_set f))
regions_power (count_q some ∷ qs) f = regions_power qs (with_number f)

-- the number of emitted quantifiers
pub next_is : (qs : List Quantifier) (f : Frame) → (inside_all f qs).next ≡ f.next + length (emit_quantifiers f qs)
unfolding inside_all emit_quantifiers becomes with_number with_set
next_is [] f = sym (add-zero f.next)
next_is (int_q some ∷ qs) f = omega (arith, next_is qs (with_number f))
next_is (set_q some ∷ qs) f =
    let row = replicate (dbl f.regions) (count_q some) in
    omega (arith, next_is qs (with_set f), length-append row (emit_quantifiers (with_set f) qs), length-replicate (dbl f.regions) (count_q some))
next_is (count_q some ∷ qs) f = omega (arith, next_is qs (with_number f))

-- each set with e sets outside it becomes 2 ^ (e + 1) quantifiers
pub quantifiers-length : (qs : List Quantifier) (f : Frame)
    → length (emit_quantifiers f qs) + sets qs + 2 * f.regions ≡ length qs + 2 * (inside_all f qs).regions
unfolding inside_all emit_quantifiers becomes sets with_number with_set
quantifiers-length [] f = omega arith
quantifiers-length (int_q some ∷ qs) f = omega (arith, quantifiers-length qs (with_number f))
quantifiers-length (set_q some ∷ qs) f =
    let row = replicate (dbl f.regions) (count_q some) in
    omega (
      arith,
      quantifiers-length qs (with_set f),
      dbl_is f.regions,
      length-append row (emit_quantifiers (with_set f) qs),
      length-replicate (dbl f.regions) (count_q some),
    )
quantifiers-length (count_q some ∷ qs) f = omega (arith, quantifiers-length qs (with_number f))

-- ---- the runs of nodes

pub sum_length : (p : Place) (rs : List ℕ) (k : ℕ) → length (sum_run p k rs) ≡ 2 * length rs
unfolding sum_run
sum_length p [] k = refl
sum_length p (r ∷ rs) k = omega (arith, sum_length p rs (k + 2))

-- 2 p - 1 nodes, or one for p = 0
abbrev pub card_length : List ℕ → ℕ
card_length [] = 1
card_length (r ∷ rs) = 2 * length rs + 1

pub card-length : (p : Place) (rs : List ℕ) (k : ℕ) → length (card_run p k rs) ≡ card_length rs
unfolding card_run
card-length p [] k = refl
card-length p (r ∷ rs) k = omega (arith, sum_length p rs k)

pub empty_length : (p : Place) (rs : List ℕ) (k : ℕ) → length (empty_run p k rs) ≡ card_length rs + 2
unfolding empty_run
empty_length p rs k = simp length-append (omega (arith, card-length p rs k))

pub both-length : (p : Place) (rs ss : List ℕ) (k : ℕ) → length (both_run p k rs ss) ≡ card_length rs + card_length ss + 5
unfolding both_run
both-length p rs ss k = simp length-append (omega (arith, empty_length p rs k, empty_length p ss (k + length (empty_run p k rs))))

card_short : (rs : List ℕ) (n : ℕ) → 0 < n → length rs ≤ n → card_length rs ≤ 2 * n
card_short [] n h l = omega arith
card_short (r ∷ rs) n h l = omega arith

both_short : (rs ss : List ℕ) (n : ℕ) → 0 < n → length rs + length ss ≤ n → card_length rs + card_length ss ≤ 2 * n
both_short [] [] n h l = omega arith
both_short [] (s ∷ ss) n h l = omega arith
both_short (r ∷ rs) [] n h l = omega arith
both_short (r ∷ rs) (s ∷ ss) n h l = omega arith

pub run_short : (f : Frame) (k : ℕ) (st : ℕ → ℕ) (pat : ℕ → Set) (n : Node) → 0 < f.regions → length (run_of f k st pat n) ≤ 2 * f.regions + 5
unfolding run_of
run_short f k st pat (set_var q) h = omega arith
run_short f k st pat empty h = omega arith
run_short f k st pat whole h = omega arith
run_short f k st pat (union a b) h = omega arith
run_short f k st pat (inter a b) h = omega arith
run_short f k st pat (compl a) h = omega arith
run_short f k st pat (num_var q) h = omega arith
run_short f k st pat (const c) h = omega arith
run_short f k st pat maxc h = omega arith
run_short f k st pat (sum a b) h = omega arith
run_short f k st pat (diff a b) h = omega arith
run_short f k st pat (multiple c b) h = omega arith
run_short f k st pat (card a) h =
    omega (arith, card-length f.place (covered 0 f.regions (pat a)) k, card_short (covered 0 f.regions (pat a)) f.regions h (covered_le f.regions 0 (pat a)))
run_short f k st pat (equal a b) h = omega arith
run_short f k st pat (less a b) h = omega arith
run_short f k st pat (divided c b) h = omega arith
run_short f k st pat (set_equal a b) h =
    let rs = covered 0 f.regions (minus (pat a) (pat b)) in
    let ss = covered 0 f.regions (minus (pat b) (pat a)) in
    omega (arith, both-length f.place rs ss k, both_short rs ss f.regions h (covered_apart f.regions 0 (pat a) (pat b)))
run_short f k st pat (subset a b) h =
    let rs = covered 0 f.regions (minus (pat a) (pat b)) in
    omega (arith, empty_length f.place rs k, card_short rs f.regions h (covered_le f.regions 0 (minus (pat a) (pat b))))
run_short f k st pat (conj a b) h = omega arith
run_short f k st pat (disj a b) h = omega arith
run_short f k st pat (neg a) h = omega arith
run_short f k st pat unknown h = omega arith

-- ---- constraints

pub dbl_some : (n : ℕ) → 0 < n → 0 < dbl n
dbl_some n h = omega (arith, dbl_is n)

pub further_length : (p q : Place) (n k i : ℕ) → length (further_fives p q k i n) ≡ 6 * n
unfolding further_fives five
further_length p q zero k i = refl
further_length p q (suc n) k i = omega (arith, further_length p q n (k + 6) (i + 1))

pub constraint-length : (p q : Place) (k n : ℕ) → 0 < n → length (constraint p q k n) + 1 ≡ 6 * n
unfolding constraint five
constraint-length p q k n h = omega (arith, further_length p q (n - 1) (k + 4) 1)

pub split-length : (f : Frame) (k : ℕ) → 0 < f.regions → length (split_run f k) + 1 ≡ 6 * f.regions
unfolding split_run
split-length f k h = constraint-length f.place (counts f.next) k f.regions h

pub some-length : (run : List Node) (b : Body) → length (join_some run b).nodes ≡ length b.nodes + length run + 1
unfolding join_some
some-length run b = simp length-append (omega arith)

pub all-length : (run : List Node) (b : Body) → length (join_all run b).nodes ≡ length b.nodes + length run + 2
unfolding join_all
all-length run b = simp length-append (omega arith)

pub close-length : (qs : List Quantifier) (f : Frame) (b : Body) → 0 < f.regions
    → length (close f qs b).nodes + 6 * f.regions ≡ length b.nodes + 6 * (inside_all f qs).regions + all_sets qs
unfolding close inside_all all_sets with_number with_set
close-length [] f b h = omega arith
close-length (int_q some ∷ qs) f b h = close-length qs (with_number f) b h
close-length (set_q true ∷ qs) f b h =
    let inner = close (with_set f) qs b in
    let k = length inner.nodes in
    omega (arith, close-length qs (with_set f) b (dbl_some f.regions h), some-length (split_run f k) inner, split-length f k h, dbl_is f.regions)
close-length (set_q false ∷ qs) f b h =
    let inner = close (with_set f) qs b in
    let k = length inner.nodes in
    omega (arith, close-length qs (with_set f) b (dbl_some f.regions h), all-length (split_run f k) inner, split-length f k h, dbl_is f.regions)
close-length (count_q some ∷ qs) f b h = close-length qs (with_number f) b h
