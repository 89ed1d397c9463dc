-- What the writer answers and leaves for an emission, as printed text. Assumes nothing.
use Rattle.std.proofs.Common.{Result, Ok, Err}
use Rattle.checker.specs.declared.refusals.Refusal.TheVariants as refused
use mathlib.Core.Path.{◌≡◌, sym, ap, ◌∙◌}
use mathlib.Core.Bool.{Bool, true, false, cond}
use mathlib.Core.List.{List, ◌++◌}
use Prim.Native.Nat.{ℕ}
use native.Mathlib.Omega.{arith}
use lib.Dec.{ltb}
use lib.IntN.{ℤ}
use lib.ListN.{length, drop}
use Rattle.checker.specs.declared.Dialect.TheVariants.{Emitted}
use Rattle.checker.specs.declared.refusals.Refusal.{Refusal}
use Rattle.checker.specs.declared.Shape.{Shape}
use Rattle.checker.specs.Claim.{Claim}
use Rattle.checker.specs.Words.{claim_of}
use Rattle.checker.specs.Check.{check_as}
use Rattle.sentence.specs.Text.{text_of}
use Rattle.solver.specs.Written.{fitted, written_of, held_after, out_after}
use Rattle.solver.proofs.Answers.{claim_answer}
use Rattle.text.specs.Answer.{refusal_text, Printed}
use Rattle.smt_text.specs.Lent.{lent_bytes, written_text, fitted_text}

-- a text that fits is as long as the writer says
whole : (b : Bool) (r : Refusal) (m n : ℕ) → cond b (Err r) (Ok m) ≡ Ok n → m ≡ n
whole true r m n e = let z : ◌≡◌ {A = ℕ} 0 1 = cc in absurd (omega arith)
whole false r m n e = cc

fitted_long : (room : ℕ) (c : Claim) (n : ℕ) → fitted room c ≡ Ok n → length (text_of c) ≡ n
unfolding fitted
fitted_long room c n e = whole (ltb room (length (text_of c))) (refused.TooShort (length (text_of c))) (length (text_of c)) n e

-- The writer says w of the words ws, which the checker takes, and makes l' of l.
module _ (ws : List ℤ) (l l' : List ℕ) {s : Shape} {w : Result ℕ Refusal} (taken : check_as Emitted ws ≡ Ok s) (room : length l ≡ lent_bytes)
    (says : w ≡ written_of ws (length l)) (leaves : l' ≡ out_after ws l) where
  abbrev claim : Claim
  claim = claim_of ws

  answers : w ≡ fitted lent_bytes claim
  answers = says ∙ (claim_answer ws (length l) taken ∙ ap (λ k. fitted k claim) room)

  left : l' ≡ held_after w claim l
  unfolding out_after
  left = leaves ∙ ap (λ x. held_after x claim l) (sym says)

  prints : written_text claim w ≡ fitted_text claim
  unfolding fitted_text
  prints = ap (written_text claim) answers

  pub bytes_printed : (n : ℕ) → w ≡ Ok n → Printed l (fitted_text claim) l' n
  unfolding written_text held_after
  bytes_printed n is =
      let long = fitted_long lent_bytes claim n (sym answers ∙ is) in
      rw (← prints, is)
      (record { bytes = left ∙ (ap (λ x. held_after x claim l) is ∙ ap (λ k. text_of claim ++ drop k l) (sym long)); count = sym long })

  pub refusal_printed : (r : Refusal) → w ≡ Err r → {l'' : List ℕ} {n : ℕ} → Printed l' (refusal_text r) l'' n → Printed l (fitted_text claim) l'' n
  unfolding written_text held_after
  refusal_printed r is p = rw (← prints, is, ← (left ∙ ap (λ x. held_after x claim l) is)) p
