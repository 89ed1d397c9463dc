-- Every ruling takes a step, so an allowance of 0 is always spent. Assumes nothing.
use Rattle.std.proofs.Common.{ap, Ok}
use mathlib.Core.Path.{◌≡◌}
use mathlib.Core.List.{List, [], ◌∷◌}
use Prim.Native.Nat.{ℕ, zero, suc, ◌+◌, ◌-◌, ◌≤◌, ◌<◌, ◌^◌}
use native.Mathlib.Omega.{arith}
use borrow.Author.Tests.{lt-leb}
use lib.IntN.{ℤ}
use Rattle.checker.specs.declared.Shape.{Shape}
use Rattle.checker.specs.Claim.{Claim}
use Rattle.checker.specs.Words.{claim_of}
use Rattle.checker.specs.Sorts.{sets}
use Rattle.checker.specs.Check.{check_of}
use Rattle.decider.specs.declared.Decision.TheVariants.{Spent}
use Rattle.decider.specs.Rule.{Ruling, Plan, split, rule}
use Rattle.decider.specs.Plan.{plan_of, ruling}
use Rattle.decider.specs.Decision.{admission, outcome_of, decided, decision_of}
use Rattle.decider.proofs.Tries.{tries_steps}

-- where something is tried at every split
pub rule_steps : (P : Plan) → ((h : ℕ) (l : List ℕ) → P.from h l < P.end h l) → (n h : ℕ) (l : List ℕ) → 1 ≤ (rule P n h l).steps
unfolding rule
rule_steps P some zero h l = omega arith
rule_steps P some (suc n) h l =
    tries_steps (P.some h) (λ k. rule P n (h + 1) (split l h k)) (P.end h l - P.from h l) (P.from h l) (omega (arith, some h l))
    (λ k. rule_steps P some n (h + 1) (split l h k))

pub ruling_steps : (N : ℕ) (c : Claim) → 1 ≤ (ruling N c).steps
unfolding ruling
ruling_steps N c = rule_steps (plan_of c) (λ h l. omega arith) (2 ^ sets c.quantifiers - 1) 1 (0 ∷ N ∷ [])

spent_at_once : (r : Ruling) → 1 ≤ r.steps → outcome_of r 0 ≡ Spent 0
unfolding outcome_of
spent_at_once r h = rw (lt-leb r.steps 0 (omega arith))

-- An allowance of 0 is spent, whatever the claim: if it is not refused.
pub nothing_allowed : (ws : List ℤ) (N : ℕ) (s : Shape) → admission N (claim_of ws) (check_of ws) ≡ Ok s → decision_of ws N 0 ≡ Ok (Spent 0)
unfolding decision_of decided
nothing_allowed ws N s e = rw e (ap Ok (spent_at_once (ruling N (claim_of ws)) (ruling_steps N (claim_of ws))))
