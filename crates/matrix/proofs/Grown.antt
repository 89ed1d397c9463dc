-- The sets' values over the final regions are what the quantifiers make of them one after the other, from the outermost in. Assumes nothing.
use mathlib.Core.Path.{◌≡◌, refl, sym, ap, fun_ext, ◌∙◌}
use mathlib.Core.List.{List, [], ◌∷◌, ◌++◌, map, append_assoc, append-nil, map-append, map-map, map-id}
use Prim.Native.Nat.{ℕ, suc, ◌/◌, ◌^◌}
use native.Mathlib.Nat.{div-one}
use native.Mathlib.Numerals.{add-one}
use lib.IntN.{pos}
use lib.Pow.{shr-shr}
use Rattle.checker.specs.Claim.{Quantifier, int_q, set_q, count_q}
use Rattle.checker.specs.Sorts.{sets}
use Rattle.checker.specs.Meaning.{Value, set, num, truth}
use Rattle.region.specs.Regions.{half, odd}
use Rattle.region.specs.Counting.{pull, grow}
use Rattle.matrix.specs.Final.{final_values}

-- The values of the quantifiers once those of qs are bound too. A number's value does not matter.
unfoldable pub grown : List Quantifier → List Value → List Value
grown [] vs = vs
grown (int_q some ∷ qs) vs = grown qs (vs ++ num (pos 0) ∷ [])
grown (set_q some ∷ qs) vs = grown qs (grow vs)
grown (count_q some ∷ qs) vs = grown qs (vs ++ num (pos 0) ∷ [])

-- each region is split into 2 ^ m
abbrev pub deep : ℕ → Value → Value
deep m v = pull (λ r. r / 2 ^ m) v

deep_none : (vs : List Value) → map (deep 0) vs ≡ vs
deep_none vs = ap (λ f. map f vs) (fun_ext same) ∙ map-id vs
  where
    same : (v : Value) → deep 0 v ≡ v
    same (set a) = ap set (fun_ext (λ p. ap a (div-one p)))
    same (num k) = refl
    same (truth b) = refl

deep_half : (m : ℕ) (v : Value) → deep m (pull half v) ≡ deep (suc m) v
deep_half m (set a) = ap set (fun_ext (λ p. ap a (shr-shr p m 1 ∙ ap (λ n. p / 2 ^ n) (add-one m))))
deep_half m (num k) = refl
deep_half m (truth b) = refl

module _ (qs : List Quantifier) (vs : List Value) where
  with_number : map (deep (sets qs)) (vs ++ num (pos 0) ∷ []) ++ final_values qs ≡ map (deep (sets qs)) vs ++ num (pos 0) ∷ final_values qs
  with_number = ap (λ l. l ++ final_values qs) (map-append (deep (sets qs)) vs (num (pos 0) ∷ [])) ∙ append_assoc (map (deep (sets qs)) vs) (num (pos 0) ∷ []) (final_values qs)

  with_set_lem : map (deep (sets qs)) (grow vs) ++ final_values qs ≡ map (deep (suc (sets qs))) vs ++ set (λ r. odd (r / 2 ^ sets qs)) ∷ final_values qs
  unfolding grow
  with_set_lem =
      ap (λ l. l ++ final_values qs) (map-append (deep (sets qs)) (map (pull half) vs) (set odd ∷ [])
      ∙ ap (λ l. l ++ set (λ r. odd (r / 2 ^ sets qs)) ∷ []) (map-map (deep (sets qs)) (pull half) vs ∙ ap (λ f. map f vs) (fun_ext (deep_half (sets qs)))))
      ∙ append_assoc (map (deep (suc (sets qs))) vs) (set (λ r. odd (r / 2 ^ sets qs)) ∷ []) (final_values qs)

-- from the values vs of outer quantifiers on
pub grown_is : (qs : List Quantifier) (vs : List Value) → grown qs vs ≡ map (deep (sets qs)) vs ++ final_values qs
unfolding grown final_values sets
grown_is [] vs = sym (append-nil (map (deep 0) vs) ∙ deep_none vs)
grown_is (int_q some ∷ qs) vs = grown_is qs (vs ++ num (pos 0) ∷ []) ∙ with_number qs vs
grown_is (set_q some ∷ qs) vs = grown_is qs (grow vs) ∙ with_set_lem qs vs
grown_is (count_q some ∷ qs) vs = grown_is qs (vs ++ num (pos 0) ∷ []) ∙ with_number qs vs

pub grown_final : (qs : List Quantifier) → grown qs [] ≡ final_values qs
grown_final qs = grown_is qs []
