-- The region counts add up to the size after every split, for every number of sets. Assumes nothing.
use mathlib.Core.Path.{◌≡◌, refl, sym, ap, ◌∙◌}
use mathlib.Core.Bool.{true}
use mathlib.Core.List.{List, [], ◌∷◌, ◌++◌}
use Prim.Native.Nat.{ℕ, ◌+◌, ◌-◌, ◌≤◌, ◌<◌}
use native.Mathlib.Numerals.{add-one}
use native.Mathlib.Omega.{arith}
use lib.ListN.{length, get_or, drop, length-append}
use lib.Seq.{drop-cons, drop-append-le}
use Rattle.region.specs.Regions.{over}
use Rattle.region.proofs.Covered.{over-append}
use Rattle.decider.specs.Rule.{split}
use Rattle.decider.specs.Plan.{Reached, begun, more}

-- how many ports the regions have together
abbrev pub total : List ℕ → ℕ
total cs = over (λ r. true) cs

total-append : (xs ys : List ℕ) → total (xs ++ ys) ≡ total xs + total ys
total-append xs ys = over-append xs ys (λ r. true)

-- the region to split, and those after it
pub total_next : (l : List ℕ) (h : ℕ) → h < length l → total (drop h l) ≡ get_or l h 0 + total (drop (h + 1) l)
unfolding over
total_next l h lt = ap total (drop-cons l h 0 lt) ∙ ap (λ z. get_or l h 0 + total (drop z l)) (sym (add-one h))

-- l has the counts of the regions below 2 h, and those from h on stand
pub total-split : (l : List ℕ) (h k : ℕ) → 0 < h → length l ≡ h + h → k ≤ get_or l h 0 → total (drop (h + 1) (split l h k)) ≡ total (drop h l)
unfolding over
total-split l h k pos len le =
    let parts : total (drop (h + 1) (split l h k)) ≡ total (drop (h + 1) l) + (get_or l h 0 - k + (k + 0)) =
    ap total (drop-append-le (h + 1) l ((get_or l h 0 - k) ∷ k ∷ []) (omega arith)) ∙ total-append (drop (h + 1) l) ((get_or l h 0 - k) ∷ k ∷ []) in
    omega (arith, parts, total_next l h (omega arith))

reached_long : {N h : ℕ} {l : List ℕ} → Reached N h l → (0 < h) × (length l ≡ h + h)
reached_long begun = (omega arith, refl)
reached_long (more {h = h} {l = l} r k le) =
    let e = reached_long r in (omega arith, omega (arith, e.1, length-append l ((get_or l h 0 - k) ∷ k ∷ [])))

-- The region counts add up to the size after every split.
pub reached_total : {N h : ℕ} {l : List ℕ} → Reached N h l → total (drop h l) ≡ N
unfolding over
reached_total begun = omega arith
reached_total (more {h = h} {l = l} r k le) =
    let e = reached_long r in total-split l h k e.0 e.1 le ∙ reached_total r
