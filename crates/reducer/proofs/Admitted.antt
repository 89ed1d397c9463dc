-- The tests of the reducer in their order, and what is known where none holds.
-- Assumes nothing.
use Rattle.std.proofs.Common.{Ok}
use mathlib.Core.Path.{◌≡◌, sym, ap, ◌∙◌}
use mathlib.Core.List.{List, ◌++◌}
use Prim.Native.Nat.{ℕ, ◌≤◌}
use native.Mathlib.Omega.{arith}
use native.Mathlib.Nat.{zero-add}
use lib.IntN.{ℤ}
use lib.ListN.{length, drop}
use Rattle.checker.specs.declared.Shape.{Shape}
use Rattle.std.proofs.lemmas.Bool.Decides.{nat_tests}
use Rattle.checker.specs.Claim.{Claim}
use Rattle.checker.specs.Words.{words_of}
use Rattle.checker.specs.Check.{verdict}
use Rattle.checker.proofs.Words.{words-length}
use Rattle.lent.specs.Write.{Wrote}
use Rattle.lent.proofs.Writing.{wrote_front}
use Rattle.reducer.specs.Reduced.{reducer_tests, held_after}

-- for the code, which makes the tests one by one
pub ruleset in_order = (nat_tests, words-length)

-- ---- what an answer says

pub admitted_room : (c : Claim) (room : ℕ) (s : Shape) {t : Shape} → verdict (reducer_tests room c) (Ok s) ≡ Ok t → length (words_of c) ≤ room
unfolding verdict reducer_tests
admitted_room c room s e = grind (arith, nat_tests)

-- the emission was written
pub emitted_held : (c : Claim) {l l' : List ℤ} {n : ℕ} → Wrote l 0 (words_of c) l' n → length (words_of c) ≤ length l → l' ≡ held_after (Ok n) c l
unfolding held_after
emitted_held c {l = l} w h =
    wrote_front w h ∙ ap (λ k. words_of c ++ drop k l) (sym (w.after ∙ zero-add (length (words_of c))))
