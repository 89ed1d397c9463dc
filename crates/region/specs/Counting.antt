-- The truth of a claim over region counts alone (003, section 4). `proofs/Counting.antt` shows that it is the truth over sets.
-- Assumes nothing.
use Rattle.std.specs.Prelude.{◌≡◌, true, List, [], ◌∷◌, ◌++◌, map, ℕ, ℤ, pos}
use Rattle.checker.specs.Claim.{Quantifier, int_q, set_q, count_q, Claim}
use Rattle.checker.specs.Meaning.{Value, set, num, truth, matrix, Quantified}
use Rattle.region.specs.Regions.{half, odd, Split, regions}

-- A value over other things, r giving for each of those the thing that it was.
abbrev pub pull : (ℕ → ℕ) → Value → Value
pull r (set a) = set (λ p. a (r p))
pull r (num k) = num k
pull r (truth b) = truth b

-- After one more set: a set that covers region i covers 2 i and 2 i + 1, and the new set covers the odd regions.
unfoldable pub grow : List Value → List Value
grow vs = map (pull half) vs ++ set odd ∷ []

-- The claim holds at region counts cs, its outer quantifiers having the values `vs` and its inner ones being `qs`.
abbrev pub HoldsR : Claim → List Quantifier → List Value → List ℕ → Type 0
HoldsR c [] vs cs = matrix (regions cs) c vs ≡ true
HoldsR c (int_q some ∷ qs) vs cs = Quantified some ℤ (λ k. HoldsR c qs (vs ++ num k ∷ []) cs)
HoldsR c (set_q some ∷ qs) vs cs = Quantified some ((ls : List ℕ) × Split cs ls) (λ x. HoldsR c qs (grow vs) x.0)
HoldsR c (count_q some ∷ qs) vs cs = Quantified some ℕ (λ k. HoldsR c qs (vs ++ num (pos k) ∷ []) cs)

-- At size N: from one region of N ports.
abbrev pub TrueAtR : ℕ → Claim → Type 0
TrueAtR N c = HoldsR c c.quantifiers [] (N ∷ [])
