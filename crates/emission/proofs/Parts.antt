-- The runs in the parts in which they are written.
-- Assumes nothing.
use mathlib.Core.Path.{◌≡◌, refl, ap, ◌∙◌}
use mathlib.Core.List.{List, [], ◌∷◌, ◌++◌, append_assoc}
use Prim.Native.Nat.{ℕ, ◌+◌, ◌*◌, ◌-◌, ◌≤◌, max}
use native.Mathlib.Omega.{arith}
use lib.IntN.{pos}
use lib.ListN.{length}
use Rattle.checker.specs.Claim.{const, sum, equal, conj}
use Rattle.emission.specs.Emission.{Place, region_node, sum_run, card_run, empty_run, both_run}
use Rattle.emission.proofs.Lengths.{card-length, card_length}

-- ---- a cardinality; `at` and `next` are the nodes before and after a part

pub card_none : (p : Place) (at : ℕ) (rs : List ℕ) → length rs ≡ 0 → card_run p at rs ≡ const (pos 0) ∷ []
unfolding card_run
card_none p at [] e = refl
card_none p at (r ∷ rs) e = absurd (omega arith)

pub card_first : (p : Place) (at next r : ℕ) (rs rs' : List ℕ) → rs ≡ r ∷ rs' → next ≡ at + 1 → card_run p at rs ≡ (region_node p r ∷ []) ++ sum_run p (next - 1) rs'
unfolding card_run
card_first p at next r rs rs' e n =
    let k : next - 1 ≡ at = omega arith in
    ap (card_run p at) e ∙ rw k

pub sum_next : (p : Place) (at next r : ℕ) (rs rs' : List ℕ) → rs ≡ r ∷ rs' → 1 ≤ at → next ≡ at + 2
    → sum_run p (at - 1) rs ≡ (region_node p r ∷ sum (at - 1) at ∷ []) ++ sum_run p (next - 1) rs'
unfolding sum_run
sum_next p at next r rs rs' e h n =
    let one : at - 1 + 1 ≡ at = omega arith in
    let two : at - 1 + 2 ≡ next - 1 = omega arith in
    ap (sum_run p (at - 1)) e ∙ rw (one, two)

pub sum_none : (p : Place) (at : ℕ) (rs : List ℕ) → length rs ≡ 0 → sum_run p at rs ≡ []
unfolding sum_run
sum_none p at [] e = refl
sum_none p at (r ∷ rs) e = absurd (omega arith)

card_all : (rs : List ℕ) → card_length rs ≡ 2 * max (length rs) 1 - 1
card_all [] = refl
card_all (r ∷ rs) = omega arith

-- 2 p - 1 nodes, and one if p is 0
pub card_size : (p : Place) (at : ℕ) (rs : List ℕ) → length (card_run p at rs) ≡ 2 * max (length rs) 1 - 1
card_size p at rs = card-length p rs at ∙ card_all rs

pub card_least : (p : Place) (at : ℕ) (rs : List ℕ) → 1 ≤ length (card_run p at rs)
unfolding card_run
card_least p at [] = omega arith
card_least p at (r ∷ rs) = omega arith

-- ---- that there is none, and that two sets are equal

pub empty_parts : (p : Place) (at none : ℕ) (rs : List ℕ) → none ≡ at + length (card_run p at rs)
    → empty_run p at rs ≡ card_run p at rs ++ ((const (pos 0) ∷ []) ++ (equal (none - 1) none ∷ []))
unfolding empty_run
empty_parts p at none rs e = rw e

pub both_parts : (p : Place) (at second join : ℕ) (rs ss : List ℕ) → second ≡ at + length (empty_run p at rs) → join ≡ second + length (empty_run p second ss)
    → both_run p at rs ss ≡ empty_run p at rs ++ (empty_run p second ss ++ (conj (second - 1) (join - 1) ∷ []))
unfolding both_run
both_parts p at second join rs ss e f = rw (f, e) (append_assoc (empty_run p at rs) (empty_run p (at + length (empty_run p at rs)) ss) _)
