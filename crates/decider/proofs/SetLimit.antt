-- With six sets or fewer the decider answers what it did when six was the limit, with the same steps (#113): the check is the only part of
-- `decision_of` that knows a limit, and it does not feel it. Assumes nothing.
use Rattle.std.proofs.Common.{Result}
use Rattle.checker.specs.declared.refusals.Refusal.{Refusal}
use mathlib.Core.Path.{◌≡◌, refl}
use mathlib.Core.List.{List}
use Prim.Native.Nat.{ℕ, ◌≤◌}
use lib.IntN.{ℤ}
use Rattle.checker.specs.Words.{claim_of}
use Rattle.checker.proofs.SetLimit.{sets_in, check_up_to, six_sets_as_they_were}
use Rattle.decider.specs.declared.Decision.{Decision}
use Rattle.decider.specs.Plan.{ruling}
use Rattle.decider.specs.Decision.{admission, decided, decision_of}

-- `decision_of`, after a check with another limit
unfoldable pub decision_up_to : ℕ → List ℤ → ℕ → ℕ → Result Decision Refusal
decision_up_to limit ws N allowance = decided (ruling N (claim_of ws)) allowance (admission N (claim_of ws) (check_up_to limit ws))

pub decided_as_with_six : (ws : List ℤ) (N allowance : ℕ) → sets_in ws ≤ 6 → decision_of ws N allowance ≡ decision_up_to 6 ws N allowance
unfolding decision_of decision_up_to
decided_as_with_six ws N allowance few = rw (six_sets_as_they_were ws few) refl
