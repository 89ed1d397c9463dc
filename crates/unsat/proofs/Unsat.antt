-- "unsat" for the text of a claim's emission says that the claim is true at every size. Assumes nothing.
use mathlib.Core.Path.{◌≡◌, refl, sym, ◌∙◌}
use mathlib.Core.Logic.{◌↔◌}
use mathlib.Core.Bool.{Bool, true, false, true≢false}
use Prim.Native.Nat.{ℕ}
use lib.Dec.{T}
use Rattle.checker.specs.Claim.{Claim}
use Rattle.checker.specs.Sorts.{WellSorted}
use Rattle.checker.specs.Meaning.{TrueAt}
use Rattle.emission.specs.Emission.{emission}
use Rattle.reducer.proofs.Reduction.{truth_kept}
use Rattle.decider.specs.Plan.{ruling, only_sets}
use Rattle.decider.proofs.Truth.{rule_true}
use Rattle.sentence.specs.Smt.{Sat, nothing}
use Rattle.sentence.specs.Sentences.{commands}
use Rattle.sentence.proofs.Asserted.{unsatisfiable, true_unsat, unsat_true}
use Rattle.unsat.proofs.Emitted.{plain_emission}

module _ (c : Claim) (h : WellSorted c) where
  -- the claim is false at no size
  pub unsat_nowhere_false : (Sat nothing (commands (emission c)) → ⊥) ↔ ((N : ℕ) → (TrueAt N c → ⊥) → ⊥)
  unsat_nowhere_false =
      let e = unsatisfiable (emission c) (plain_emission c h) in
      ((λ u N f. e.0 u N (λ t. f ((truth_kept N c h).0 t))), (λ f. e.1 (λ N g. f N (λ t. g ((truth_kept N c h).1 t)))))

  kept_dec : (N : ℕ) → Dec (TrueAt N c) → Dec (TrueAt N (emission c))
  kept_dec N (yes t) = yes ((truth_kept N c h).1 t)
  kept_dec N (no f) = no (λ t. f ((truth_kept N c h).0 t))

  -- where the claim is true or false at each size, it is true at every size
  pub unsat_everywhere : ((N : ℕ) → Dec (TrueAt N c)) → (Sat nothing (commands (emission c)) → ⊥) ↔ ((N : ℕ) → TrueAt N c)
  unsat_everywhere dec = (
    (λ u N. (truth_kept N c h).0 (unsat_true (emission c) (plain_emission c h) u N (kept_dec N (dec N)))),
    (λ f. true_unsat (emission c) (plain_emission c h) (λ N. (truth_kept N c h).1 (f N))),
  )

-- A claim without number quantifiers is true or false at each size: the decider's rule finds out which.
decided : (N : ℕ) (c : Claim) → T (only_sets c.quantifiers) → Dec (TrueAt N c)
decided N c o = go (ruling N c).truth refl
  where
    go : (b : Bool) → (ruling N c).truth ≡ b → Dec (TrueAt N c)
    go true e = yes ((rule_true N c o).0 e)
    go false e = no (λ t. true≢false (sym ((rule_true N c o).1 t) ∙ e))

-- The text of such a claim's emission is unsatisfiable exactly if the claim is true at every size.
pub unsat_sets : (c : Claim) → WellSorted c → T (only_sets c.quantifiers) → (Sat nothing (commands (emission c)) → ⊥) ↔ ((N : ℕ) → TrueAt N c)
unsat_sets c h o = unsat_everywhere c h (λ N. decided N c o)
