-- Laws of what the quantifiers give, as the code keeps it: one quantifier further, one entry of a plan, and how large the numbers get.
-- Assumes nothing.
use mathlib.Core.Path.{◌≡◌, refl, sym, ap, ap₂, ◌∙◌}
use mathlib.Core.Bool.{Bool, true, false}
use mathlib.Core.List.{List, [], ◌∷◌, ◌++◌}
use Prim.Native.Nat.{ℕ, zero, suc, ◌+◌, ◌*◌, ◌^◌, ◌%◌, ◌≤◌, ◌<◌}
use native.Mathlib.Nat.{le_refl, add-zero, zero-add, one-mul, pow-le-pow_right}
use native.Mathlib.Numerals.{add-one, add-two}
use native.Mathlib.Omega.{arith}
use borrow.Author.Count.{below_more}
use lib.Dec.{lit<}
use lib.IntN.{pos}
use lib.ListN.{length, get_or, take, drop, set, length-set, length-take, take-append-drop}
use lib.Pow.{shl_exact}
use lib.Seq.{sets, length-sets, get_or-set_same, get_or-set_other, drop-set-lt, take-length}
use Rattle.checker.specs.Claim.{maxc, num_var, Quantifier, int_q, set_q, count_q}
use Rattle.checker.specs.Kinds.{number, quantifier_of}
use Rattle.checker.specs.Sorts as Sorts
use Rattle.checker.specs.Sorts.{is_set_q}
use Rattle.checker.specs.Check.{max_quantifiers, max_sets}
use Rattle.region.proofs.Regions.{dbl_is}
use Rattle.region.specs.Pattern.{pattern_bits}
use Rattle.emission.specs.declared.Frame as code
use Rattle.emission.specs.Emission.{Frame, region_node, start, with_number, with_set, inside, inside_all}
use Rattle.emission.specs.Plan.{place_at, place_in, first_of, Says, frame_at, Planned}
use Rattle.emission.proofs.Lengths.{regions_power, next_is, quantifiers-length}
use Rattle.emission.proofs.Steps.{inside-append}

-- ---- a region's node

pub no_counts : (level first r : ℕ) → level ≡ 0 → region_node (place_at level first) r ≡ maxc
no_counts level first r e = rw e

pub some_counts : (level first r : ℕ) → (level ≡ 0 → ⊥) → region_node (place_at level first) r ≡ num_var (first + r)
some_counts zero first r n = absurd (n refl)
some_counts (suc level) first r n = refl

-- ---- how many sets

pub sets-append : (ps qs : List Quantifier) → Sorts.sets (ps ++ qs) ≡ Sorts.sets ps + Sorts.sets qs
unfolding Sorts.sets
sets-append [] qs = omega arith
sets-append (int_q some ∷ ps) qs = sets-append ps qs
sets-append (set_q some ∷ ps) qs = omega (arith, sets-append ps qs)
sets-append (count_q some ∷ ps) qs = sets-append ps qs

pub sets_front : (j : ℕ) (qs : List Quantifier) → Sorts.sets (take j qs) + Sorts.sets (drop j qs) ≡ Sorts.sets qs
sets_front j qs = sym (sets-append (take j qs) (drop j qs)) ∙ ap Sorts.sets (take-append-drop j qs)

pub regions_are : (qs : List Quantifier) → (inside_all start qs).regions ≡ 2 ^ Sorts.sets qs
unfolding start
regions_are qs = regions_power qs start ∙ one-mul (2 ^ Sorts.sets qs)

pub regions_few : (qs : List Quantifier) → Sorts.sets qs ≤ max_sets → (inside_all start qs).regions ≤ pattern_bits
regions_few qs h = rw (regions_are qs) (pow-le-pow_right {n = 2} (omega arith) h)

-- the emitted quantifiers are far from too many
pub next_small : (qs : List Quantifier) → length qs ≤ max_quantifiers → Sorts.sets qs ≤ max_sets → (inside_all start qs).next ≤ max_quantifiers + 2 * pattern_bits
unfolding start
next_small qs l s = omega (arith, next_is qs start, quantifiers-length qs start, regions_few qs s)

-- the same for what the first j quantifiers give
pub says_small : (qs : List Quantifier) (j : ℕ) {f : code.Frame} → length qs ≤ max_quantifiers → Sorts.sets qs ≤ max_sets → Says (take j qs) f
    → (f.next ≤ max_quantifiers + 2 * pattern_bits) × (f.level ≤ max_sets)
says_small qs j l s f =
    let few : Sorts.sets (take j qs) ≤ max_sets = omega (arith, sets_front j qs) in
    let short : length (take j qs) ≤ max_quantifiers = omega (arith, length-take j qs) in
    (omega (arith, f.next, next_small (take j qs) short few), omega (arith, f.level))

-- ---- one quantifier further

-- a shift of 2, where no bit is lost
pub shifted : (e : ℕ) → e ≤ max_sets → 2 * 2 ^ e % 2 ^ 64 ≡ 2 * 2 ^ e
shifted e h = shl_exact 2 e 64 (lit< tt) (omega arith)

inside_one : (qs : List Quantifier) (q : Quantifier) → inside_all start (qs ++ q ∷ []) ≡ inside (inside_all start qs) q
unfolding inside_all
inside_one qs q = inside-append start qs (q ∷ [])

module _ {qs : List Quantifier} {f : code.Frame} (s : Says qs f) where
  pub says_set : (some : Bool) (next : ℕ) → next ≡ f.next + 2 * 2 ^ f.level
      → Says (qs ++ set_q some ∷ []) (record { next = next; level = f.level + 1; first = f.next })
  unfolding with_set Sorts.sets
  says_set some next e =
      record {
        next = rw inside_one (omega (arith, s.next, dbl_is (inside_all start qs).regions, regions_are qs, ap (λ k. 2 ^ k) s.level));
        level = rw sets-append (omega (arith, s.level));
        first = rw inside_one s.next;
      }

  pub says_number : (q : Quantifier) → is_set_q q ≡ false → Says (qs ++ q ∷ []) (record { next = f.next + 1; level = f.level; first = f.first })
  unfolding with_number Sorts.sets
  says_number (int_q some) e =
      record {
        next = rw inside_one (omega (arith, s.next));
        level = rw sets-append (omega (arith, s.level));
        first = rw inside_one s.first;
      }
  says_number (set_q some) e = let z : ◌≡◌ {A = ℕ} 0 1 = cc in absurd (omega arith)
  says_number (count_q some) e =
      record {
        next = rw inside_one (omega (arith, s.next));
        level = rw sets-append (omega (arith, s.level));
        first = rw inside_one s.first;
      }

pub says_none : Says [] (record { next = 0; level = 0; first = 0 })
unfolding inside_all start Sorts.sets
says_none = record { next = refl; level = refl; first = refl }

-- the counts are where there are sets
place_from : (qs : List Quantifier) (f : Frame) (e : ℕ) → f.place ≡ place_at e (first_of f.place)
    → (inside_all f qs).place ≡ place_at (e + Sorts.sets qs) (first_of (inside_all f qs).place)
unfolding inside_all with_number with_set Sorts.sets
place_from [] f e h = rw add-zero h
place_from (int_q some ∷ qs) f e h = place_from qs (with_number f) e h
place_from (set_q some ∷ qs) f e h =
    let more : suc e + Sorts.sets qs ≡ e + suc (Sorts.sets qs) = omega arith in
    place_from qs (with_set f) (suc e) refl ∙ ap (λ k. place_at k (first_of (inside_all (with_set f) qs).place)) more
place_from (count_q some ∷ qs) f e h = place_from qs (with_number f) e h

pub place_is : {qs : List Quantifier} {f : code.Frame} → Says qs f → (inside_all start qs).place ≡ place_in f
unfolding start
place_is {qs} {f} s = place_from qs start 0 refl ∙ ap₂ place_at (zero-add (Sorts.sets qs) ∙ sym s.level) (sym s.first)

-- the counts stand before the next quantifier
first_low : (qs : List Quantifier) (f : Frame) → first_of f.place ≤ f.next → first_of (inside_all f qs).place ≤ (inside_all f qs).next
unfolding inside_all with_number with_set
first_low [] f h = h
first_low (int_q some ∷ qs) f h = first_low qs (with_number f) (omega arith)
first_low (set_q some ∷ qs) f h = first_low qs (with_set f) (omega arith)
first_low (count_q some ∷ qs) f h = first_low qs (with_number f) (omega arith)

pub first_small : {qs : List Quantifier} {f : code.Frame} → Says qs f → length qs ≤ max_quantifiers → Sorts.sets qs ≤ max_sets → f.first ≤ max_quantifiers + 2 * pattern_bits
unfolding start
first_small {qs} {f} s l m = omega (arith, s.first, first_low qs start (omega arith), next_small qs l m)

-- what all quantifiers give is the plan's last entry
pub says_all : {plan : List ℕ} {qs : List Quantifier} {n : ℕ} {f : code.Frame} → Planned plan qs → n ≡ length qs → f ≡ frame_at plan n → Says qs f
says_all {plan} {qs} {n} {f} p e h = rw (h, e) (rw (take-length qs) at (p.says (length qs) (le_refl (length qs))))

-- kinds 3 and 4 bind sets
pub kind_set : (k : ℕ) → 3 ≤ k → k < 5 → (some : Bool) × (quantifier_of (pos k) ≡ set_q some)
unfolding quantifier_of number
kind_set zero l h = absurd (omega arith)
kind_set (suc zero) l h = absurd (omega arith)
kind_set (suc (suc zero)) l h = absurd (omega arith)
kind_set (suc (suc (suc zero))) l h = (true, refl)
kind_set (suc (suc (suc (suc zero)))) l h = (false, refl)
kind_set (suc (suc (suc (suc (suc k))))) l h = absurd (omega arith)

pub kind_number : (k : ℕ) → (3 ≤ k → k < 5 → ⊥) → is_set_q (quantifier_of (pos k)) ≡ false
unfolding quantifier_of number
kind_number zero n = refl
kind_number (suc zero) n = refl
kind_number (suc (suc zero)) n = refl
kind_number (suc (suc (suc zero))) n = absurd (n (omega arith) (omega arith))
kind_number (suc (suc (suc (suc zero)))) n = absurd (n (omega arith) (omega arith))
kind_number (suc (suc (suc (suc (suc zero))))) n = refl
kind_number (suc (suc (suc (suc (suc (suc zero)))))) n = refl
kind_number (suc (suc (suc (suc (suc (suc (suc k))))))) n = refl

-- ---- the entries of a plan

apart : (i k : ℕ) → i < k → i ≡ k → ⊥
apart i k h e = omega arith

module _ (l : List ℕ) (j a b c : ℕ) where
  noted_same : 3 * j + 3 ≤ length l → frame_at (sets l (3 * j) (a ∷ b ∷ c ∷ [])) j ≡ record { next = a; level = b; first = c }
  noted_same h =
      let i = 3 * j in
      let one : List ℕ = set l i a in
      let two : List ℕ = set one (suc i) b in
      rw (
        add-one,
        add-two,
        get_or-set_other two (suc (suc i)) i c 0 (apart i (suc (suc i)) (omega arith)),
        get_or-set_other one (suc i) i b 0 (apart i (suc i) (omega arith)),
        get_or-set_same l i a 0 (omega arith),
        get_or-set_other two (suc (suc i)) (suc i) c 0 (apart (suc i) (suc (suc i)) (omega arith)),
        get_or-set_same one (suc i) b 0 (simp length-set (omega arith)),
        get_or-set_same two (suc (suc i)) c 0 (simp length-set (omega arith)),
      )

  past : (k : ℕ) → k < 3 * j → get_or (sets l (3 * j) (a ∷ b ∷ c ∷ [])) k 0 ≡ get_or l k 0
  past k h =
      let i = 3 * j in
      rw (
        get_or-set_other (set (set l i a) (suc i) b) (suc (suc i)) k c 0 (apart k (suc (suc i)) (omega arith)),
        get_or-set_other (set l i a) (suc i) k b 0 (apart k (suc i) (omega arith)),
        get_or-set_other l i k a 0 (apart k i h),
      )

  noted_other : (k : ℕ) → k < j → frame_at (sets l (3 * j) (a ∷ b ∷ c ∷ [])) k ≡ frame_at l k
  noted_other k h = rw (past (3 * k) (omega arith), past (3 * k + 1) (omega arith), past (3 * k + 2) (omega arith))

  noted_past : (n : ℕ) → 3 * j + 3 ≤ n → drop n (sets l (3 * j) (a ∷ b ∷ c ∷ [])) ≡ drop n l
  noted_past n h =
      let i = 3 * j in
      drop-set-lt n (set (set l i a) (suc i) b) (suc (suc i)) c (omega arith) ∙ drop-set-lt n (set l i a) (suc i) b (omega arith) ∙ drop-set-lt n l i a (omega arith)

-- After j entries: each says what the quantifiers outside its own give, and from place n on the table is as it was.
pub record Noted (qs : List Quantifier) (n : ℕ) (before after : List ℕ) (j : ℕ) : Type 0 where
  pub long : length after ≡ length before
  pub says : (k : ℕ) → k < j → Says (take k qs) (frame_at after k)
  pub past : drop n after ≡ drop n before

pub noted_none : (qs : List Quantifier) (n : ℕ) (l : List ℕ) → Noted qs n l l 0
noted_none qs n l = record { long = refl; says = λ k h. absurd (omega arith); past = refl }

pub noted_more : {qs : List Quantifier} {n j : ℕ} {before l l' : List ℕ} {f : code.Frame} → Noted qs n before l j → Says (take j qs) f
    → 3 * j + 3 ≤ n → n ≤ length before → l' ≡ sets l (3 * j) (f.next ∷ f.level ∷ f.first ∷ []) → Noted qs n before l' (j + 1)
noted_more {qs} {n} {j} {before} {l} {l'} {f} s says h fits e =
    rw e (
    record {
      long = length-sets l (3 * j) (f.next ∷ f.level ∷ f.first ∷ []) ∙ s.long;
      says =
          below_more (λ k. Says (take k qs) (frame_at (sets l (3 * j) (f.next ∷ f.level ∷ f.first ∷ [])) k)) j
          (λ k b. rw (noted_other l j f.next f.level f.first k b) (s.says k b))
          (rw (noted_same l j f.next f.level f.first (omega (arith, s.long))) says);
      past = noted_past l j f.next f.level f.first n h ∙ s.past;
    }
    )
