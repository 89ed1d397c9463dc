-- The rule over a lent array of counts: region h stands at place h, and what the rule is given at split h is the array's front of 2 h entries.
-- Assumes nothing.
use mathlib.Core.Path.{◌≡◌, sym, ap, ap₂, ◌∙◌}
use mathlib.Core.Bool.{Bool}
use mathlib.Core.List.{List, [], ◌∷◌, append_assoc}
use Prim.Native.Nat.{ℕ, suc, ◌+◌, ◌-◌, ◌≤◌, ◌<◌, min}
use native.Mathlib.Numerals.{add-one}
use native.Mathlib.Omega.{arith}
use native.Mathlib.Decide.{dec_lt}
use Rattle.std.proofs.lemmas.Slice.{between_is}
use lib.ListN.{length, take, drop, get_or, set, length-set, drop_of_length-le}
use lib.Seq.{take-suc-set, get_or-take, take-take, take_at, length-take-le}
use Rattle.checker.specs.Claim.{Claim}
use Rattle.decider.specs.Rule.{Ruling, Plan, tries, split, rule}
use Rattle.decider.specs.Plan.{plan_of}
use Rattle.decider.specs.Standing.{Total, finals}
use Rattle.decider.proofs.Total.{total, total-split}

-- ---- the array

-- The two children of region h are written.
pub placed : (l : List ℕ) (h k : ℕ) → 0 < h → h + h + 2 ≤ length l
    → take (h + 1 + (h + 1)) (set (set l (h + h) (get_or l h 0 - k)) (h + h + 1) k) ≡ split (take (h + h) l) h k
placed l h k pos room =
    let x = get_or l h 0 - k in
    let twice : h + 1 + (h + 1) ≡ suc (suc (h + h)) = omega arith in
    let i : h + h < length l = omega arith in
    let j : suc (h + h) < length (set l (h + h) x) = simp length-set (omega arith) in
    let below : h < h + h = omega arith in
    rw (twice, add-one (h + h), take-suc-set (set l (h + h) x) (suc (h + h)) k j, take-suc-set l (h + h) x i, get_or-take (h + h) l h 0 below)
    (append_assoc (take (h + h) l) (x ∷ []) (k ∷ []))

-- Counts that agree up to 2 h agree at h.
pub same_at : (e l : List ℕ) (h : ℕ) → 0 < h → take (h + h) l ≡ take (h + h) e → get_or l h 0 ≡ get_or e h 0
same_at e l h pos s =
    let below : h < h + h = omega arith in
    sym (get_or-take (h + h) l h 0 below) ∙ ap (λ z. get_or z h 0) s ∙ get_or-take (h + h) e h 0 below

-- A longer front that stands, and a shorter one that stood before.
pub shorter : {A : Type 0} (m n : ℕ) (after mid before : List A) → m ≤ n → take n after ≡ take n mid → take m mid ≡ take m before → take m after ≡ take m before
shorter m n after mid before h e q = sym (take-take m n after h) ∙ ap (take m) e ∙ take-take m n mid h ∙ q

-- The final regions among those that stand: the entries of the array from `regions` on, up to `stop`.
pub final_part : (l : List ℕ) (regions h start : ℕ) → start ≡ min (h + h) regions → h + h ≤ length l → take (h + h - start) (drop start l) ≡ finals regions h l
final_part l R h start e room = between_is l start (h + h) ∙ go (dec_lt (h + h) R)
  where
    short : length (take (h + h) l) ≤ h + h
    short = omega (arith, length-take-le (h + h) l room)

    go : Dec (h + h < R) → drop start (take (h + h) l) ≡ finals R h l
    go (yes p) = drop_of_length-le (take (h + h) l) (omega (arith, short)) ∙ sym (drop_of_length-le (take (h + h) l) (omega (arith, short)))
    go (no p) = ap (λ n. drop n (take (h + h) l)) (omega arith)

-- Split h is made: e is what the counts were at entry, l what they were before it, with the same front, and `given` what they are then.
module _ (h : ℕ) (e l given : List ℕ) (k : ℕ) (s : take (h + h) l ≡ take (h + h) e) (p : take (h + 1 + (h + 1)) given ≡ split (take (h + h) l) h k) where
  pub given_is : take (h + 1 + (h + 1)) given ≡ split (take (h + h) e) h k
  given_is = p ∙ ap (λ z. split z h k) s

  -- the counts before the children stand, also after a call that leaves the children
  pub still : h + h ≤ length e → (left : List ℕ) → take (h + 1 + (h + 1)) left ≡ take (h + 1 + (h + 1)) given → take (h + h) left ≡ take (h + h) e
  still room left q =
      let n : h + h ≤ h + 1 + (h + 1) = omega arith in
      sym (take-take (h + h) (h + 1 + (h + 1)) left n) ∙ ap (take (h + h)) (q ∙ given_is)
      ∙ take_at (take (h + h) e) ((get_or (take (h + h) e) h 0 - k) ∷ k ∷ []) (h + h) (length-take-le (h + h) e room)

  -- the counts still add up
  pub total_more : (size : ℕ) → 0 < h → h + h ≤ length e → k ≤ get_or e h 0 → Total e h size → Total given (h + 1) size
  total_more size pos room le t =
      let below : h < h + h = omega arith in
      let at : get_or (take (h + h) e) h 0 ≡ get_or e h 0 = get_or-take (h + h) e h 0 below in
      ap (λ z. total (drop (h + 1) z)) given_is ∙ total-split (take (h + h) e) h k pos (length-take-le (h + h) e room) (omega arith) ∙ t

-- ---- the rule

-- e is what the counts were at entry, h the next split, and `regions` where the splits end
module _ (P : Plan) (regions h : ℕ) (e : List ℕ) where
  abbrev pub next : ℕ → Ruling
  next k = rule P (regions - (h + 1)) (h + 1) (split (take (h + h) e) h k)

  -- no split is left
  pub rule_none : h ≡ regions → rule P (regions - h) h (take (h + h) e) ≡ record { truth = P.matrix (drop h (take (h + h) e)); steps = 1 }
  unfolding rule
  rule_none same = let z : regions - h ≡ 0 = omega arith in rw z

  -- one is
  pub rule_more : h < regions
      → rule P (regions - h) h (take (h + h) e) ≡ tries (P.some h) next (P.end h (take (h + h) e) - P.from h (take (h + h) e)) (P.from h (take (h + h) e))
  unfolding rule
  rule_more lt = let z : regions - h ≡ suc (regions - (h + 1)) = omega arith in rw z

  -- then the final regions are all there
  pub leaf : h ≡ regions → rule P (regions - h) h (take (h + h) e) ≡ record { truth = P.matrix (finals regions regions e); steps = 1 }
  leaf same = rule_none same ∙ ap (λ n. record { truth = P.matrix (drop n (take (n + n) e)); steps = 1 }) same

-- The run of all tries at split h is the rule there.
pub run : (c : Claim) (regions h : ℕ) (e : List ℕ) → 0 < h → h < regions → (some : Bool) → some ≡ (plan_of c).some h
    → tries some (next (plan_of c) regions h e) (get_or e h 0 + 1 - 0) 0 ≡ rule (plan_of c) (regions - h) h (take (h + h) e)
run c regions h e pos lt some q =
    let below : h < h + h = omega arith in
    sym
    (rule_more (plan_of c) regions h e lt
    ∙ ap₂ (λ b n. tries b (next (plan_of c) regions h e) (n + 1 - 0) 0) (sym q) (get_or-take (h + h) e h 0 below))
