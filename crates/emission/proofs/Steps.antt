-- The emission as loops write it: one node, one region, one quantifier further. For the proof of the code.
-- Assumes nothing.
use mathlib.Core.Path.{◌≡◌, refl, sym, ◌∙◌, ap, ap₂, fun_ext}
use mathlib.Core.List.{List, [], ◌∷◌, ◌++◌, map, append_assoc, append-nil, map-append, map-map, map-id}
use Prim.Native.Nat.{ℕ, zero, suc, ◌+◌, ◌*◌, ◌-◌, ◌/◌, ◌^◌, ◌<◌}
use native.Mathlib.Nat.{add-zero, div-one}
use native.Mathlib.Numerals.{add-one}
use native.Mathlib.Omega.{arith}
use lib.ListN.{length, get_or, take, drop}
use lib.Pow.{shr-shr}
use lib.Seq.{take-suc, drop-cons}
use Rattle.checker.specs.Claim.{Node, Quantifier, sum, conj, int_q, set_q, count_q}
use Rattle.checker.specs.Sorts.{sets}
use Rattle.checker.specs.Meaning.{Set}
use Rattle.region.specs.Regions.{odd}
use Rattle.emission.specs.Emission.{Place, region_node, Frame, none, halved, start, with_number, with_set, inside, inside_all, becomes, emit_quantifiers, sum_run, Emitted, emit_node, emit_nodes, five, further_fives, constraint}

-- ---- one element further

pub next_taken : {A : Type 0} (xs : List A) (d : A) (j : ℕ) → j < length xs → take (j + 1) xs ≡ take j xs ++ get_or xs j d ∷ []
next_taken xs d j h = rw add-one (take-suc xs j d h)

pub next_dropped : {A : Type 0} (xs : List A) (d : A) (j : ℕ) → j < length xs → drop j xs ≡ get_or xs j d ∷ drop (j + 1) xs
next_dropped xs d j h = rw add-one (drop-cons xs j d h)

-- ---- one node further

pub nodes-append : (f : Frame) (xs ys : List Node) (e : Emitted) → emit_nodes f e (xs ++ ys) ≡ emit_nodes f (emit_nodes f e xs) ys
unfolding emit_nodes
nodes-append f [] ys e = refl
nodes-append f (x ∷ xs) ys e = nodes-append f xs ys (emit_node f e x)

-- after j nodes, and one more
pub nodes_step : (f : Frame) (ns : List Node) (e : Emitted) (d : Node) (j : ℕ) → j < length ns
    → emit_nodes f e (take (j + 1) ns) ≡ emit_node f (emit_nodes f e (take j ns)) (get_or ns j d)
unfolding emit_nodes
nodes_step f ns e d j h = ap (emit_nodes f e) (next_taken ns d j h) ∙ nodes-append f (take j ns) (get_or ns j d ∷ []) e

-- ---- one region further: in a cardinality

pub sum_step : (p : Place) (rs : List ℕ) (r k : ℕ)
    → sum_run p k (rs ++ r ∷ []) ≡ sum_run p k rs ++ region_node p r ∷ sum (k + 2 * length rs) (k + 2 * length rs + 1) ∷ []
unfolding sum_run
sum_step p [] r k = rw (add-zero k)
sum_step p (x ∷ rs) r k =
    let e : k + 2 + 2 * length rs ≡ k + 2 * suc (length rs) = omega arith in
    ap (λ l. region_node p x ∷ sum k (k + 1) ∷ l)
    (sum_step p rs r (k + 2) ∙ ap (λ m. sum_run p (k + 2) rs ++ region_node p r ∷ sum m (m + 1) ∷ []) e)

-- ---- one parent region further: in a constraint

further_step : (p q : Place) (n k i : ℕ)
    → further_fives p q k i (suc n) ≡ further_fives p q k i n ++ (five p q (k + 6 * n + 1) (i + n) ++ conj (k + 6 * n) (k + 6 * n + 5) ∷ [])
unfolding further_fives
further_step p q zero k i = rw (add-zero k, add-zero i)
further_step p q (suc n) k i =
    let e : k + 6 + 6 * n ≡ k + 6 * suc n = omega arith in
    let d : i + 1 + n ≡ i + suc n = omega arith in
    ap (λ l. five p q (k + 1) i ++ conj k (k + 5) ∷ l)
    (further_step p q n (k + 6) (i + 1)
    ∙ ap₂ (λ x y. further_fives p q (k + 6) (i + 1) n ++ (five p q (x + 1) y ++ conj x (x + 5) ∷ [])) e d)
    ∙ sym (append_assoc (five p q (k + 1) i) (conj k (k + 5) ∷ further_fives p q (k + 6) (i + 1) n) _)

-- `at` is the number of nodes before
pub constraint_step : (p q : Place) (k n at : ℕ) → 0 < n → at ≡ k + (6 * n - 1)
    → constraint p q k (n + 1) ≡ constraint p q k n ++ (five p q at n ++ conj (at - 1) (at + 4) ∷ [])
unfolding constraint
constraint_step p q k n at h e =
    let e₁ : n + 1 - 1 ≡ suc (n - 1) = omega arith in
    let e₂ : k + 4 + 6 * (n - 1) + 1 ≡ at = omega arith in
    let e₃ : 1 + (n - 1) ≡ n = omega arith in
    let e₄ : k + 4 + 6 * (n - 1) ≡ at - 1 = omega arith in
    let e₅ : k + 4 + 6 * (n - 1) + 5 ≡ at + 4 = omega arith in
    ap (λ m. five p q k 0 ++ further_fives p q (k + 4) 1 m) e₁
    ∙ ap (λ l. five p q k 0 ++ l)
    (further_step p q (n - 1) (k + 4) 1
    ∙ ap₂ (λ x y. further_fives p q (k + 4) 1 (n - 1) ++ (x ++ y ∷ [])) (ap₂ (five p q) e₂ e₃) (ap₂ conj e₄ e₅))
    ∙ sym (append_assoc (five p q k 0) (further_fives p q (k + 4) 1 (n - 1)) _)

-- ---- one quantifier further

pub inside-append : (f : Frame) (qs rs : List Quantifier) → inside_all f (qs ++ rs) ≡ inside_all (inside_all f qs) rs
unfolding inside_all
inside-append f [] rs = refl
inside-append f (q ∷ qs) rs = inside-append (inside f q) qs rs

pub inside_step : (f : Frame) (qs : List Quantifier) (d : Quantifier) (j : ℕ) → j < length qs
    → inside_all f (take (j + 1) qs) ≡ inside (inside_all f (take j qs)) (get_or qs j d)
unfolding inside_all
inside_step f qs d j h = ap (inside_all f) (next_taken qs d j h) ∙ inside-append f (take j qs) (get_or qs j d ∷ [])

pub quantifiers-append : (f : Frame) (qs rs : List Quantifier) → emit_quantifiers f (qs ++ rs) ≡ emit_quantifiers f qs ++ emit_quantifiers (inside_all f qs) rs
unfolding emit_quantifiers inside_all
quantifiers-append f [] rs = refl
quantifiers-append f (q ∷ qs) rs =
    ap (λ l. becomes f q ++ l) (quantifiers-append (inside f q) qs rs) ∙ sym (append_assoc (becomes f q) (emit_quantifiers (inside f q) qs) _)

-- after j quantifiers, and one more
pub quantifiers_step : (f : Frame) (qs : List Quantifier) (d : Quantifier) (j : ℕ) → j < length qs
    → emit_quantifiers f (take (j + 1) qs) ≡ emit_quantifiers f (take j qs) ++ becomes (inside_all f (take j qs)) (get_or qs j d)
unfolding emit_quantifiers
quantifiers_step f qs d j h =
    ap (emit_quantifiers f) (next_taken qs d j h) ∙ quantifiers-append f (take j qs) (get_or qs j d ∷ [])
    ∙ ap (λ l. emit_quantifiers f (take j qs) ++ l) (append-nil (becomes (inside_all f (take j qs)) (get_or qs j d)))

-- ---- what a quantifier becomes: its number is how many are emitted before it

unfoldable nexts : Frame → List Quantifier → List ℕ
nexts f [] = []
nexts f (q ∷ qs) = f.next ∷ nexts (inside f q) qs

inside_numbers : (f : Frame) (q : Quantifier) → (inside f q).numbers ≡ f.numbers ++ f.next ∷ []
unfolding with_number with_set
inside_numbers f (int_q some) = refl
inside_numbers f (set_q some) = refl
inside_numbers f (count_q some) = refl

numbers_are : (qs : List Quantifier) (f : Frame) → (inside_all f qs).numbers ≡ f.numbers ++ nexts f qs
unfolding inside_all nexts
numbers_are [] f = sym (append-nil f.numbers)
numbers_are (q ∷ qs) f =
    numbers_are qs (inside f q) ∙ ap (λ l. l ++ nexts (inside f q) qs) (inside_numbers f q)
    ∙ append_assoc f.numbers (f.next ∷ []) (nexts (inside f q) qs)

nexts_at : (qs : List Quantifier) (f : Frame) (q : ℕ) → q < length qs → get_or (nexts f qs) q 0 ≡ (inside_all f (take q qs)).next
unfolding inside_all nexts
nexts_at [] f q h = absurd (omega arith)
nexts_at (x ∷ qs) f zero h = refl
nexts_at (x ∷ qs) f (suc q) h = nexts_at qs (inside f x) q (omega arith)

pub number_at : (qs : List Quantifier) (q : ℕ) → q < length qs → get_or (inside_all start qs).numbers q 0 ≡ (inside_all start (take q qs)).next
unfolding start
number_at qs q h = ap (λ l. get_or l q 0) (numbers_are qs start) ∙ nexts_at qs start q h

-- ---- what a set quantifier covers: the final regions whose bit is set, the bit's number being how many sets are inside

-- a quantifier with k sets inside it
abbrev pub cover_at : Quantifier → ℕ → Set
cover_at (int_q some) k = none
cover_at (set_q some) k = λ r. odd (r / 2 ^ k)
cover_at (count_q some) k = none

unfoldable pub own : List Quantifier → List Set
own [] = []
own (q ∷ qs) = cover_at q (sets qs) ∷ own qs

abbrev shifted : ℕ → Set → Set
shifted k p r = p (r / 2 ^ k)

shifted_none : (ps : List Set) → map (shifted 0) ps ≡ ps
shifted_none ps = ap (λ g. map g ps) (fun_ext (λ p. fun_ext (λ r. ap p (div-one r)))) ∙ map-id ps

shifted_half : (k : ℕ) (ps : List Set) → map (shifted k) (map halved ps) ≡ map (shifted (suc k)) ps
shifted_half k ps =
    map-map (shifted k) halved ps ∙ ap (λ g. map g ps) (fun_ext (λ p. fun_ext (λ r. ap p (shr-shr r k 1 ∙ ap (λ e. r / 2 ^ e) (add-one k)))))

number_covers : (k : ℕ) (ps ms os : List Set) → ms ≡ map (shifted k) (ps ++ none ∷ []) ++ os → ms ≡ map (shifted k) ps ++ none ∷ os
number_covers k ps ms os h = h ∙ ap (λ l. l ++ os) (map-append (shifted k) ps (none ∷ [])) ∙ append_assoc (map (shifted k) ps) (none ∷ []) os

set_covers : (k : ℕ) (ps ms os : List Set) → ms ≡ map (shifted k) (map halved ps ++ odd ∷ []) ++ os → ms ≡ map (shifted (suc k)) ps ++ (λ r. odd (r / 2 ^ k)) ∷ os
set_covers k ps ms os h =
    h ∙ ap (λ l. l ++ os) (map-append (shifted k) (map halved ps) (odd ∷ []) ∙ ap (λ l. l ++ shifted k odd ∷ []) (shifted_half k ps))
    ∙ append_assoc (map (shifted (suc k)) ps) (shifted k odd ∷ []) os

pub covers_are : (qs : List Quantifier) (f : Frame) → (inside_all f qs).covers ≡ map (shifted (sets qs)) f.covers ++ own qs
unfolding inside_all own sets with_number with_set
covers_are [] f = sym (append-nil (map (shifted 0) f.covers) ∙ shifted_none f.covers)
covers_are (int_q some ∷ qs) f = number_covers (sets qs) f.covers _ (own qs) (covers_are qs (with_number f))
covers_are (set_q some ∷ qs) f = set_covers (sets qs) f.covers _ (own qs) (covers_are qs (with_set f))
covers_are (count_q some ∷ qs) f = number_covers (sets qs) f.covers _ (own qs) (covers_are qs (with_number f))

own_at : (qs : List Quantifier) (q : ℕ) (d : Quantifier) → q < length qs → get_or (own qs) q none ≡ cover_at (get_or qs q d) (sets (drop (suc q) qs))
unfolding own
own_at [] q d h = absurd (omega arith)
own_at (x ∷ qs) zero d h = refl
own_at (x ∷ qs) (suc q) d h = own_at qs q d (omega arith)

pub cover_bit : (qs : List Quantifier) (q : ℕ) (d : Quantifier) → q < length qs
    → get_or (inside_all start qs).covers q none ≡ cover_at (get_or qs q d) (sets (drop (q + 1) qs))
unfolding start
cover_bit qs q d h = rw add-one (ap (λ l. get_or l q none) (covers_are qs start) ∙ own_at qs q d h)
