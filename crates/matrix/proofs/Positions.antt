-- The bit of a set in a region's number: how many sets stand inside it, counted over the quantifiers' words. Assumes nothing.
use mathlib.Core.Path.{◌≡◌, refl, sym}
use mathlib.Core.Bool.{Bool, true, false, cond, ◌||◌, true≢false}
use mathlib.Core.List.{List, [], ◌∷◌}
use Prim.Native.Nat.{ℕ, zero, suc, ◌+◌, ◌*◌, ◌<◌}
use native.Mathlib.Numerals.{add-one}
use native.Mathlib.Omega.{arith}
use Rattle.std.proofs.lemmas.Bool.Decides.{nat_tests}
use lib.Dec.{eqb}
use lib.IntN.{ℤ}
use lib.ListN.{length, get_or, drop, drop_of_length-le}
use Rattle.std.specs.List.{filter, range_with_len}
use lib.Seq.{drop-cons}
use Rattle.checker.specs.declared.Shape.{Shape}
use Rattle.std.proofs.Common.{Ok}
use Rattle.checker.specs.Claim.{Quantifier, int_q, set_q, count_q}
use Rattle.checker.specs.Kinds.{number, quantifier_of}
use Rattle.checker.specs.Words.{word, word_at, claim_of}
use Rattle.checker.specs.Check.{check_of}
use Rattle.checker.specs.Sorts.{is_set_q, sets}
use Rattle.checker.proofs.Claims.{node_count_lem, quantifier_in, sound}
use Rattle.checker.specs.Meaning.{set_at}
use Rattle.region.specs.Pattern.{covers}
use Rattle.matrix.specs.Final.{final_values}

-- ---- quantifiers by their words

kind_sets : (m : ℕ) → (eqb m 3 || eqb m 4) ≡ is_set_q (get_or (int_q true ∷ int_q true ∷ int_q false ∷ set_q true ∷ set_q false ∷ count_q true ∷ count_q false ∷ []) m (int_q true))
kind_sets zero = refl
kind_sets (suc zero) = refl
kind_sets (suc (suc zero)) = refl
kind_sets (suc (suc (suc zero))) = refl
kind_sets (suc (suc (suc (suc zero)))) = refl
kind_sets (suc (suc (suc (suc (suc zero))))) = refl
kind_sets (suc (suc (suc (suc (suc (suc zero)))))) = refl
kind_sets (suc (suc (suc (suc (suc (suc (suc m))))))) = grind (arith, nat_tests)

-- the first part shows `grind` the call to match
pub set_words : (ws : List ℤ) (s : Shape) (j : ℕ) → check_of ws ≡ Ok s → j < s.quantifiers
    → (word_at ws (3 * s.nodes + j) ≡ word_at ws (3 * s.nodes + j))
    × ((eqb (word_at ws (3 * s.nodes + j)) 3 || eqb (word_at ws (3 * s.nodes + j)) 4) ≡ is_set_q (get_or (claim_of ws).quantifiers j (int_q true)))
unfolding word_at quantifier_of
set_words ws s j e h =
    let ok = sound ws s e in
    (refl, rw (quantifier_in ws j (omega (arith, ok.quantifiers)), ← node_count_lem ws, ← ok.nodes) (kind_sets (number (word ws (3 * s.nodes + j)))))

-- ---- one quantifier further

sets-cons : (q : Quantifier) (qs : List Quantifier) → sets (q ∷ qs) ≡ sets qs + cond (is_set_q q) 1 0
unfolding sets
sets-cons (int_q some) qs = omega arith
sets-cons (set_q some) qs = omega arith
sets-cons (count_q some) qs = omega arith

module _ (qs : List Quantifier) (j : ℕ) (h : j < length qs) where
  from : sets (drop j qs) ≡ sets (drop (j + 1) qs) + cond (is_set_q (get_or qs j (int_q true))) 1 0
  from = rw (drop-cons qs j (int_q true) h, add-one j) (sets-cons (get_or qs j (int_q true)) (drop (suc j) qs))

-- how many quantifiers from j on range over sets
pub sets_filtered : (qs : List Quantifier) (n j : ℕ) → j + n ≡ length qs → length (filter (λ i. is_set_q (get_or qs i (int_q true))) (range_with_len j n)) ≡ sets (drop j qs)
unfolding sets
sets_filtered qs zero j e = rw (drop_of_length-le qs {i = j} (omega arith))
sets_filtered qs (suc n) j e = rw (from qs j (omega arith)) (go (is_set_q (get_or qs j (int_q true))) _ _ (sets_filtered qs n (j + 1) (omega arith)))
  where
    go : (b : Bool) (xs : List ℕ) (m : ℕ) → length xs ≡ m → length (cond b (j ∷ xs) xs) ≡ m + cond b 1 0
    go true xs m h = omega arith
    go false xs m h = omega arith

-- ---- the regions of quantifier q's set

covers-suc : (qs : List Quantifier) (q r : ℕ) → is_set_q (get_or qs q (int_q true)) ≡ true → set_at (final_values qs) q r ≡ covers r (sets (drop (suc q) qs))
unfolding final_values set_at covers
covers-suc [] q r e = absurd (true≢false (sym e))
covers-suc (int_q some ∷ qs) zero r e = absurd (true≢false (sym e))
covers-suc (int_q some ∷ qs) (suc q) r e = covers-suc qs q r e
covers-suc (set_q some ∷ qs) zero r e = refl
covers-suc (set_q some ∷ qs) (suc q) r e = covers-suc qs q r e
covers-suc (count_q some ∷ qs) zero r e = absurd (true≢false (sym e))
covers-suc (count_q some ∷ qs) (suc q) r e = covers-suc qs q r e

pub final_covers : (qs : List Quantifier) (q r : ℕ) → is_set_q (get_or qs q (int_q true)) ≡ true → set_at (final_values qs) q r ≡ covers r (sets (drop (q + 1) qs))
final_covers qs q r e = rw (add-one q) (covers-suc qs q r e)
