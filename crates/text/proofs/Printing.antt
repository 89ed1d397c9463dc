-- A text that is written from the start on is printed. Assumes nothing.
use mathlib.Core.Path.{◌∙◌}
use mathlib.Core.List.{List}
use Prim.Native.Nat.{ℕ, ◌≤◌}
use native.Mathlib.Nat.{zero-add}
use native.Mathlib.Omega.{arith}
use Rattle.lent.specs.Write.{Wrote}
use Rattle.lent.proofs.Writing.{wrote_front}
use lib.ListN.{length, length-append}
use Rattle.text.specs.Answer.{Printed}

pub printed : {l text l' : List ℕ} {n : ℕ} → Wrote l 0 text l' n → n ≤ length l → Printed l text l' n
printed {text = text} w h = record { bytes = wrote_front w (omega (arith, w.after)); count = w.after ∙ zero-add (length text) }

-- the text is in the list that it was put into
pub printed_within : {l text l' : List ℕ} {n : ℕ} → Printed l text l' n → n ≤ length l'
printed_within {text = text} p = rw (p.bytes, length-append text) (omega (arith, p.count))
