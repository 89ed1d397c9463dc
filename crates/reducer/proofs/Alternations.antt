-- The emission has as many alternations as the claim: a set becomes quantifiers of one kind.
-- Assumes nothing.
use mathlib.Core.Path.{◌≡◌, refl, sym, ◌∙◌, ap}
use mathlib.Core.Bool.{Bool, true, false, not, beq}
use mathlib.Core.List.{List, [], ◌∷◌, ◌++◌}
use Prim.Native.Nat.{ℕ, zero, suc, ◌+◌, ◌<◌}
use native.Mathlib.Omega.{arith}
use lib.ListN.{replicate}
use Rattle.checker.specs.Claim.{Quantifier, Claim, int_q, set_q, count_q}
use Rattle.checker.specs.Meaning.{bit}
use Rattle.region.specs.Regions.{dbl}
use Rattle.emission.specs.Emission.{Frame, start, with_number, with_set, becomes, emit_quantifiers, emission}
use Rattle.emission.proofs.Lengths.{dbl_some}
use Rattle.reducer.specs.Sizes.{is_exists, alternations}

-- the alternations after a quantifier that is an exists or not
unfoldable changes : Bool → List Quantifier → ℕ
changes a [] = 0
changes a (q ∷ qs) = bit (not (beq a (is_exists q))) + changes (is_exists q) qs

alternations_after : (q : Quantifier) (qs : List Quantifier) → alternations (q ∷ qs) ≡ changes (is_exists q) qs
unfolding alternations changes
alternations_after q [] = refl
alternations_after q (p ∷ qs) = ap (λ x. bit (not (beq (is_exists q) (is_exists p))) + x) (alternations_after p qs)

-- ---- a row of one kind

same_kind : (some : Bool) → bit (not (beq some some)) ≡ 0
same_kind true = refl
same_kind false = refl

row_further : (m : ℕ) (some : Bool) (qs : List Quantifier) → changes some (replicate m (count_q some) ++ qs) ≡ changes some qs
unfolding changes
row_further zero some qs = refl
row_further (suc m) some qs = omega (arith, same_kind some, row_further m some qs)

row_after : (m : ℕ) (some : Bool) (qs : List Quantifier) (a : Bool) → 0 < m
    → changes a (replicate m (count_q some) ++ qs) ≡ bit (not (beq a some)) + changes some qs
unfolding changes
row_after zero some qs a h = absurd (omega arith)
row_after (suc m) some qs a h = ap (λ x. bit (not (beq a some)) + x) (row_further m some qs)

row_first : (m : ℕ) (some : Bool) (qs : List Quantifier) → 0 < m → alternations (replicate m (count_q some) ++ qs) ≡ changes some qs
row_first zero some qs h = absurd (omega arith)
row_first (suc m) some qs h = alternations_after (count_q some) (replicate m (count_q some) ++ qs) ∙ row_further m some qs

-- ---- the emission's quantifiers

changes_emit : (qs : List Quantifier) (f : Frame) (a : Bool) → 0 < f.regions → changes a (emit_quantifiers f qs) ≡ changes a qs
unfolding changes emit_quantifiers becomes with_set with_number
changes_emit [] f a h = refl
changes_emit (int_q some ∷ qs) f a h = ap (λ x. bit (not (beq a some)) + x) (changes_emit qs (with_number f) some h)
changes_emit (set_q some ∷ qs) f a h =
    row_after (dbl f.regions) some _ a (dbl_some f.regions h)
    ∙ ap (λ x. bit (not (beq a some)) + x) (changes_emit qs (with_set f) some (dbl_some f.regions h))
changes_emit (count_q some ∷ qs) f a h = ap (λ x. bit (not (beq a some)) + x) (changes_emit qs (with_number f) some h)

alternations_emit : (qs : List Quantifier) (f : Frame) → 0 < f.regions → alternations (emit_quantifiers f qs) ≡ alternations qs
unfolding emit_quantifiers becomes with_set with_number
alternations_emit [] f h = refl
alternations_emit (int_q some ∷ qs) f h =
    alternations_after (int_q some) _ ∙ changes_emit qs (with_number f) some h ∙ sym (alternations_after (int_q some) qs)
alternations_emit (set_q some ∷ qs) f h =
    row_first (dbl f.regions) some _ (dbl_some f.regions h) ∙ changes_emit qs (with_set f) some (dbl_some f.regions h)
    ∙ sym (alternations_after (set_q some) qs)
alternations_emit (count_q some ∷ qs) f h =
    alternations_after (count_q some) _ ∙ changes_emit qs (with_number f) some h ∙ sym (alternations_after (count_q some) qs)

pub alternations_kept : (c : Claim) → alternations (emission c).quantifiers ≡ alternations c.quantifiers
unfolding emission start
alternations_kept c = alternations_emit c.quantifiers start (omega arith)
