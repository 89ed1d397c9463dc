-- What the decider's answers say of sets: true and false are the claim's truth at that size, and, for a claim without number terms and
-- comparisons, at every size from 2^S up (demand 3). Assumes nothing.
use Rattle.std.proofs.Common.{Result, Ok, Err}
use Rattle.checker.specs.declared.refusals.Refusal.{Refusal}
use mathlib.Core.Path.{◌≡◌, refl}
use mathlib.Core.Logic.{◌↔◌}
use mathlib.Core.Bool.{Bool, true, false, cond, false≢true}
use mathlib.Core.List.{List}
use Prim.Native.Nat.{ℕ, ◌≤◌, ◌^◌}
use native.Mathlib.Omega.{arith}
use lib.Dec.{leb}
use lib.IntN.{ℤ}
use Rattle.checker.specs.declared.Shape.{Shape}
use Rattle.checker.specs.Words.{claim_of}
use Rattle.checker.specs.Sorts.{sets}
use Rattle.checker.specs.Meaning.{TrueAt}
use Rattle.checker.specs.Check.{check_of}
use Rattle.decider.specs.declared.Decision.{Decision}
use Rattle.decider.specs.declared.Decision.TheVariants.{True, False, Spent}
use Rattle.decider.specs.Rule.{Ruling}
use Rattle.decider.specs.Plan.{ruling}
use Rattle.decider.specs.Threshold.{no_numbers}
use Rattle.decider.specs.Decision.{admission, outcome_of, decided, decision_of}
use Rattle.decider.proofs.Admitted.{admitted}
use Rattle.decider.proofs.Truth.{rule_true}
use Rattle.decider.proofs.Threshold.{plain_threshold}

tells : Bool → ℕ → Result Decision Refusal
tells true s = Ok (True s)
tells false s = Ok (False s)

-- A truth was ruled within the allowance, of a claim that was admitted.
answered : (r : Ruling) (a : ℕ) (k : Result Shape Refusal) (t : Bool) (s : ℕ) → decided r a k ≡ tells t s → (r.truth ≡ t) × ((x : Shape) × (k ≡ Ok x))
unfolding decided outcome_of tells
answered r a (Ok x) t s e = (go (leb r.steps a) r.truth t e, (x, refl))
  where
    go : (b u t : Bool) → Ok (cond b (cond u (True r.steps) (False r.steps)) (Spent a)) ≡ tells t s → u ≡ t
    go true true true e = refl
    go true true false e = let z : ◌≡◌ {A = ℕ} 0 1 = cc in absurd (omega arith)
    go true false true e = let z : ◌≡◌ {A = ℕ} 0 1 = cc in absurd (omega arith)
    go true false false e = refl
    go false u true e = let z : ◌≡◌ {A = ℕ} 0 1 = cc in absurd (omega arith)
    go false u false e = let z : ◌≡◌ {A = ℕ} 0 1 = cc in absurd (omega arith)
answered r a (Err x) true s e = let z : ◌≡◌ {A = ℕ} 0 1 = cc in absurd (omega arith)
answered r a (Err x) false s e = let z : ◌≡◌ {A = ℕ} 0 1 = cc in absurd (omega arith)

-- ---- the answer is the truth

module _ (ws : List ℤ) (N allowance steps : ℕ) where
  said_truth : (t : Bool) → decision_of ws N allowance ≡ tells t steps → (t ≡ true) ↔ TrueAt N (claim_of ws)
  unfolding decision_of
  said_truth t e =
      let a = answered (ruling N (claim_of ws)) allowance (admission N (claim_of ws) (check_of ws)) t steps e in
      rw a.0 at (rule_true N (claim_of ws) (admitted N (claim_of ws) (check_of ws) a.1.0 a.1.1).sets)

  pub true_is_true : decision_of ws N allowance ≡ Ok (True steps) → TrueAt N (claim_of ws)
  unfolding tells
  true_is_true e = (said_truth true e).0 refl

  pub false_is_false : decision_of ws N allowance ≡ Ok (False steps) → TrueAt N (claim_of ws) → ⊥
  unfolding tells
  false_is_false e t = false≢true ((said_truth false e).1 t)

-- Demand 3: for a claim without number terms and comparisons, the answer at one size of at least 2^S is that at every such size.
module _ (ws : List ℤ) (N allowance steps : ℕ) (plain : no_numbers (claim_of ws).nodes ≡ true) (large : 2 ^ sets (claim_of ws).quantifiers ≤ N) where
  pub demand_3_true : decision_of ws N allowance ≡ Ok (True steps) → (M : ℕ) → 2 ^ sets (claim_of ws).quantifiers ≤ M → TrueAt M (claim_of ws)
  demand_3_true e M m = (plain_threshold (claim_of ws) plain N M large m).0 (true_is_true ws N allowance steps e)

  pub demand_3_false : decision_of ws N allowance ≡ Ok (False steps) → (M : ℕ) → 2 ^ sets (claim_of ws).quantifiers ≤ M → TrueAt M (claim_of ws) → ⊥
  demand_3_false e M m t = false_is_false ws N allowance steps e ((plain_threshold (claim_of ws) plain N M large m).1 t)
