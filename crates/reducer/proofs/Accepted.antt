-- The promises for words that the checker accepts: their emission is true at the same sizes, is small, and is the words themselves where they have no sets.
-- Assumes nothing.
use Rattle.std.proofs.Common.{Ok}
use mathlib.Core.Path.{◌≡◌}
use mathlib.Core.Logic.{◌↔◌}
use mathlib.Core.List.{List}
use Prim.Native.Nat.{ℕ, ◌≤◌}
use lib.IntN.{ℤ}
use lib.ListN.{length}
use Rattle.checker.specs.declared.Dialect.TheVariants.{Emitted}
use Rattle.checker.specs.declared.Shape.{Shape}
use Rattle.checker.specs.Words.{claim_of, words_of}
use Rattle.checker.specs.Sorts.{sets}
use Rattle.checker.specs.Meaning.{TrueAt}
use Rattle.checker.specs.Dialect.{most_nodes, most_quantifiers}
use Rattle.checker.specs.Check.{check_of}
use Rattle.checker.proofs.Accepted.{accepted_claim}
use Rattle.emission.specs.Emission.{emission}
use Rattle.reducer.specs.Sizes.{NoSetNodes}
use Rattle.reducer.proofs.Reduction.{words_kept}
use Rattle.reducer.proofs.Sizes.{nodes_limit, quantifiers_limit}
use Rattle.reducer.proofs.Unchanged.{words_unchanged}

module _ (ws : List ℤ) (s : Shape) (accepted : check_of ws ≡ Ok s) where
  pub accepted_kept : (N : ℕ) → TrueAt N (claim_of (words_of (emission (claim_of ws)))) ↔ TrueAt N (claim_of ws)
  accepted_kept N = words_kept N ws (accepted_claim ws s accepted).sorted

  pub accepted_unchanged : NoSetNodes (claim_of ws).nodes → sets (claim_of ws).quantifiers ≡ 0 → words_of (emission (claim_of ws)) ≡ ws
  accepted_unchanged free none = let a = accepted_claim ws s accepted in words_unchanged ws a.sorted free none a.words

  pub accepted_nodes : length (emission (claim_of ws)).nodes ≤ most_nodes Emitted
  accepted_nodes = let l = (accepted_claim ws s accepted).limited in nodes_limit (claim_of ws) l.few_nodes l.few_sets

  pub accepted_quantifiers : length (emission (claim_of ws)).quantifiers ≤ most_quantifiers Emitted
  accepted_quantifiers = let l = (accepted_claim ws s accepted).limited in quantifiers_limit (claim_of ws) l.few_quantifiers l.few_sets
