-- With six sets or fewer the reducer answers and writes what it did when six was the limit (#113): the check is the only part of `reduced_of` that
-- knows a limit, and it does not feel it. Assumes nothing.
use Rattle.std.proofs.Common.{Result}
use Rattle.checker.specs.declared.refusals.Refusal.{Refusal}
use mathlib.Core.Path.{◌≡◌, refl}
use mathlib.Core.List.{List}
use Prim.Native.Nat.{ℕ, ◌≤◌}
use lib.IntN.{ℤ}
use lib.ListN.{length}
use Rattle.checker.specs.Claim.{Claim}
use Rattle.checker.specs.Words.{claim_of}
use Rattle.checker.proofs.SetLimit.{sets_in, check_up_to, six_sets_as_they_were}
use Rattle.emission.specs.Emission.{emission}
use Rattle.reducer.specs.Reduced.{admission, answer, reduced_of, held_after, out_after}

-- `reduced_of`, after a check with another limit
unfoldable pub reduced_up_to : ℕ → List ℤ → ℕ → Result ℕ Refusal
reduced_up_to limit ws room = answer c (admission room c (check_up_to limit ws))
  where
    c : Claim
    c = emission (claim_of ws)

module _ (ws : List ℤ) (few : sets_in ws ≤ 6) where
  pub answered_as_with_six : (room : ℕ) → reduced_of ws room ≡ reduced_up_to 6 ws room
  unfolding reduced_of reduced_up_to
  answered_as_with_six room = rw (six_sets_as_they_were ws few) refl

  pub written_as_with_six : (out : List ℤ) → out_after ws out ≡ held_after (reduced_up_to 6 ws (length out)) (emission (claim_of ws)) out
  unfolding out_after
  written_as_with_six out = rw (answered_as_with_six (length out)) refl
