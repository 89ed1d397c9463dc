-- Two texts that are the same bytes are one. Assumes nothing.
use mathlib.Core.Path.{◌≡◌, refl, sym, ap, ◌∙◌}
use mathlib.Core.Bool.{Bool, true, false, and-eq-true_iff, true≢false}
use mathlib.Core.List.{List, [], ◌∷◌, ◌++◌, append-nil}
use Prim.Native.Nat.{ℕ}
use native.Mathlib.Omega.{arith}
use borrow.Author.Tests.{eqb-true, eq-eqb, ne_eqb}
use lib.Dec.{eqb}
use lib.ListN.{length}
use Rattle.std.proofs.Common.{◌↔◌, Option, Some, None, MatchOption, Bor}
use Rattle.std.specs.Option.{option_copied}
use Rattle.reader.specs.Same.{same}

pub same_true : (bs text : List ℕ) → same bs text ≡ true → bs ≡ text
unfolding same
same_true [] [] h = refl
same_true [] (x ∷ xs) h = absurd (true≢false (sym h))
same_true (b ∷ bs) [] h = absurd (true≢false (sym h))
same_true (b ∷ bs) (x ∷ xs) h =
    let (e, f) = (and-eq-true_iff (eqb x b) (same bs xs)).0 h in
    rw (eqb-true x b e, same_true bs xs f)

pub same_refl : (bs : List ℕ) → same bs bs ≡ true
unfolding same
same_refl [] = refl
same_refl (b ∷ bs) = rw (eq-eqb b b refl, same_refl bs)

-- ---- what is left of a text behind bytes

module _ (bs text : List ℕ) where
  all_put : same bs text ≡ true → Some text ≡ Some (bs ++ [])
  all_put e = ap Some (sym (same_true bs text e) ∙ sym (append-nil bs))

  not_same : (same bs text ≡ true → ⊥) → false ≡ same bs text
  not_same n = other (same bs text) n
    where
      other : (t : Bool) → (t ≡ true → ⊥) → false ≡ t
      other true n = absurd (n refl)
      other false n = refl

  -- Nothing is left: the text is just the bytes.
  pub same_left : {P : Bor (List ℕ) → Type 0} (rest : Option (Bor (List ℕ))) (r : Bool)
      → MatchOption rest (r ≡ false) P → ((x : Bor (List ℕ)) → P x → r ≡ eqb (length x.now) 0)
      → ((left : List ℕ) → (Some text ≡ Some (bs ++ left)) ↔ (option_copied rest ≡ Some left)) → r ≡ same bs text
  same_left None r m empty took = m ∙ not_same (λ e. let f = (took []).0 (all_put e) in cc)
  same_left (Some x) r m empty took = empty x m ∙ at x.now (λ l. let f = (took l).1 in f) (λ l. (took l).0)
    where
      at : (l : List ℕ) → ((left : List ℕ) → Some l ≡ Some left → Some text ≡ Some (bs ++ left))
          → ((left : List ℕ) → Some text ≡ Some (bs ++ left) → Some l ≡ Some left) → eqb (length l) 0 ≡ same bs text
      at [] f g =
          let t : text ≡ bs = (let h = f [] refl in cc) ∙ append-nil bs in
          rw t (sym (same_refl bs))
      at (y ∷ l) f g = ne_eqb (length (y ∷ l)) 0 (λ z. omega arith) ∙ not_same (λ e. let h = g [] (all_put e) in cc)
