-- What later splits leave as it is: the counts of the final regions that stand, and so the values of the nodes that they settle. Assumes nothing.
use mathlib.Core.Path.{◌≡◌, refl, sym, ap, subst, ◌∙◌}
use mathlib.Core.Bool.{Bool, true, false}
use mathlib.Core.List.{List, [], ◌∷◌, ◌++◌}
use Prim.Native.Nat.{ℕ, zero, suc, ◌+◌, ◌-◌, ◌^◌, ◌≤◌, ◌<◌, zero-le}
use native.Mathlib.Nat.{le_refl}
use native.Mathlib.Omega.{arith}
use borrow.Author.Tests.{leb-true, leb-false}
use lib.Dec.{leb}
use lib.IntN.{ℤ}
use lib.ListN.{length, get_or, take, drop, length-drop, drop_of_length-le}
use lib.Pow.{pow_mono}
use lib.Seq.{drop-drop, drop-append-le, length-take-le, get_or-take, take-add}
use Rattle.checker.specs.declared.Shape.{Shape}
use Rattle.checker.specs.Claim.{Claim}
use Rattle.checker.specs.Words.{claim_of}
use Rattle.checker.specs.Sorts.{sets}
use Rattle.checker.specs.Check.{max_nodes}
use Rattle.region.specs.Regions.{over}
use Rattle.matrix.specs.Known.{Counts, Open, Known}
use Rattle.matrix.proofs.Known.{known_more}
use Rattle.matrix.proofs.Open.{open_some}
use Rattle.decider.specs.Rule.{split}
use Rattle.decider.specs.Standing.{Total, finals, Passed, Frame}
use Rattle.decider.specs.Setting.{Setting, Settles, Stands}
use Rattle.decider.proofs.Total.{total, total_next}

-- ---- the final regions that stand before split h

drop_less : (m : ℕ) (l : List ℕ) → total (drop m l) ≤ total l
unfolding over
drop_less zero l = le_refl (total l)
drop_less (suc m) [] = zero-le
drop_less (suc m) (c ∷ l) = omega (arith, drop_less m l)

module _ (l : List ℕ) (h regions : ℕ) where
  pub finals-length : h + h ≤ length l → length (finals regions h l) ≡ h + h - regions
  finals-length room = length-drop regions (take (h + h) l) ∙ ap (λ n. n - regions) (length-take-le (h + h) l room)

  finals_small : (size : ℕ) → h ≤ regions → Total l h size → total (finals regions h l) ≤ size
  finals_small size le t =
      let past : h + (regions - h) ≡ regions = omega arith in
      let e : total (finals regions h l) ≡ total (drop (regions - h) (drop h (take (h + h) l))) =
      ap (λ n. total (drop n (take (h + h) l))) (sym past) ∙ ap total (sym (drop-drop (regions - h) h (take (h + h) l))) in
      omega (arith, e, t, drop_less (regions - h) (drop h (take (h + h) l)))

  -- There are counts for the others.
  pub finals_open : (c : Claim) (size : ℕ) → h < regions → h + h ≤ length l → regions ≡ 2 ^ sets c.quantifiers → Total l h size → Open c size (finals regions h l)
  finals_open c size lt room e t = open_some c size (finals regions h l) (omega (arith, finals-length room, e)) (finals_small size (omega arith) t)

  -- After the last split they are all there.
  pub finals_counts : (c : Claim) (size : ℕ) → h ≡ regions → h + h ≤ length l → regions ≡ 2 ^ sets c.quantifiers → Total l h size → Counts c size (finals regions h l)
  finals_counts c size same room e t =
      record { regions = omega (arith, finals-length room, same, e); total = ap (λ n. total (drop n (take (h + h) l))) (sym same) ∙ t }

-- A region that stands has no more ports than all.
pub total_at : (l : List ℕ) (h size : ℕ) → 0 < h → h + h ≤ length l → Total l h size → get_or l h 0 ≤ size
total_at l h size pos room t =
    let below : h < h + h = omega arith in
    omega (arith, t, total_next (take (h + h) l) h (omega (arith, length-take-le (h + h) l room)), get_or-take (h + h) l h 0 below)

-- ---- one split more

-- The final regions that stand then are those that stood, and perhaps the two children.
finals_more : (l ext : List ℕ) (regions : ℕ) → (more : List ℕ) × (drop regions (l ++ ext) ≡ drop regions l ++ more)
finals_more l ext R = go (leb R (length l)) refl
  where
    go : (t : Bool) → leb R (length l) ≡ t → (more : List ℕ) × (drop R (l ++ ext) ≡ drop R l ++ more)
    go true e = (ext, drop-append-le R l ext (leb-true R (length l) e))
    go false e =
        let short : length l ≤ R = omega (arith, leb-false R (length l) e) in
        (drop R (l ++ ext), ap (λ z. z ++ drop R (l ++ ext)) (sym (drop_of_length-le l short)))

pub known_split : (c : Claim) (N : ℕ) (order : List ℕ) (n regions h k : ℕ) (l given : List ℕ) (xs : List ℤ)
    → take (h + 1 + (h + 1)) given ≡ split (take (h + h) l) h k → Known c N (finals regions h l) order n xs → Known c N (finals regions (h + 1) given) order n xs
known_split c N order n regions h k l given xs e u =
    let m = finals_more (take (h + h) l) ((get_or (take (h + h) l) h 0 - k) ∷ k ∷ []) regions in
    subst (λ z. Known c N z order n xs) (sym (ap (drop regions) e ∙ m.1)) (known_more c N order n (finals regions h l) m.0 xs u)

-- The same where regions without ports are passed over.
pub known_passed : (c : Claim) (N : ℕ) (order : List ℕ) (n regions h r : ℕ) (l m : List ℕ) (xs : List ℤ)
    → Passed regions h l r m → Known c N (finals regions h l) order n xs → Known c N (finals regions r m) order n xs
known_passed c N order n regions h r l m xs p u =
    let more = take (r + r - (h + h)) (drop (h + h) m) in
    let front : take (r + r) m ≡ take (h + h) l ++ more =
    let sum : h + h + (r + r - (h + h)) ≡ r + r = omega (arith, p.from) in
    ap (λ k. take k m) (sym sum) ∙ take-add (h + h) (r + r - (h + h)) m ∙ ap (λ z. z ++ more) p.stands in
    let f = finals_more (take (h + h) l) more regions in
    subst (λ z. Known c N z order n xs) (sym (ap (drop regions) front ∙ f.1)) (known_more c N order n (finals regions h l) f.0 xs u)

-- ---- what stands

module _ {s : Setting} (f : Settles s) where
  -- Regions without ports are passed over.
  pub stands_passed : {h known r : ℕ} {counts after : List ℕ} {values : List ℤ} → Stands s h known counts values → Passed s.regions h counts r after → length after ≡ length counts
      → Stands s r known after values
  stands_passed {h} {known} {r} {counts} {after} {values} t p e =
      record {
        place = (omega (arith, t.place, p.from), p.upto);
        total = p.total s.size t.total;
        few = t.few;
        shown = known_passed (claim_of s.words) s.size s.order known s.regions h r counts after values p t.shown;
        roomy = (omega (arith, t.roomy, e), t.roomy.1);
      }

-- ---- arrays

-- arrays for 1,024 nodes and 2 ^ e regions
pub framed : (shape : Shape) (e : ℕ) → shape.nodes ≤ max_nodes → shape.sets ≤ e → Frame shape max_nodes (2 ^ e + 1) (2 ^ e) max_nodes (2 ^ e + 2 ^ e)
framed shape e n s =
    let few : 2 ^ shape.sets ≤ 2 ^ e = pow_mono s in
    record { nodes = (n, n); regions = (omega arith, few, omega arith) }
