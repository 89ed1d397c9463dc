-- What is known of a claim that the decider admits: the checker accepts it, and none of the tests 9 to 11 holds. Assumes nothing.
use Rattle.std.proofs.Common.{Result, Ok, Err}
use mathlib.Core.Path.{◌≡◌, ap}
use mathlib.Core.Bool.{true}
use mathlib.Core.List.{List, [], ◌∷◌}
use Prim.Native.Nat.{ℕ, suc, ◌≤◌, ◌<◌}
use native.Mathlib.Omega.{arith}
use borrow.Author.Tests.{not-false}
use lib.Dec.{T}
use lib.ListN.{length, get_or}
use Rattle.checker.specs.declared.refusals.Refusal.{Refusal}
use Rattle.checker.specs.declared.Shape.{Shape}
use Rattle.checker.specs.Claim.{Quantifier, int_q, Claim}
use Rattle.checker.specs.Sorts.{is_set_q}
use Rattle.checker.specs.Check.{verdict}
use Rattle.std.proofs.lemmas.Bool.Decides.{nat_tests}
use Rattle.checker.proofs.Search.{first_none, found_some, found_none}
use Rattle.checker.proofs.Claims.{sound}
use Rattle.matrix.specs.Bound.{first_over}
use Rattle.decider.specs.Plan.{only_sets}
use Rattle.decider.proofs.Levels.{sets_all}
use Rattle.decider.specs.Decision.{max_size, binds_number, first_number, decider_tests, admission}

only_sets_lem : (qs : List Quantifier) → ((i : ℕ) → i < length qs → is_set_q (get_or qs i (int_q true)) ≡ true) → T (only_sets qs)
unfolding only_sets
only_sets_lem [] h = tt
only_sets_lem (q ∷ qs) h = rw (h 0 (omega arith)) (only_sets_lem qs (λ i l. h (suc i) (omega arith)))

pub record Admitted (N : ℕ) (c : Claim) (k : Result Shape Refusal) (x : Shape) : Type 0 where
  pub checked : k ≡ Ok x
  pub small : N ≤ max_size
  pub sets : T (only_sets c.quantifiers)
  pub bounded : length c.nodes ≤ first_over N c

-- none of the tests holds
passed : (N : ℕ) (c : Claim) (s x : Shape) → admission N c (Ok s) ≡ Ok x
    → (s ≡ x) × (N ≤ max_size) × (length c.quantifiers ≤ first_number c) × (length c.nodes ≤ first_over N c)
unfolding admission decider_tests verdict
passed N c s x e = (grind (arith, nat_tests), grind (arith, nat_tests), grind (arith, nat_tests), grind (arith, nat_tests))

pub admitted : (N : ℕ) (c : Claim) (k : Result Shape Refusal) (x : Shape) → admission N c k ≡ Ok x → Admitted N c k x
unfolding admission binds_number
admitted N c (Ok s) x e =
    let p = passed N c s x e in
    record {
      checked = ap Ok p.0;
      small = p.1;
      sets = only_sets_lem c.quantifiers (λ i l. not-false (is_set_q (get_or c.quantifiers i (int_q true))) (first_none (binds_number c) (length c.quantifiers) p.2 i l));
      bounded = p.3;
    }
admitted N c (Err r) x e = cc

-- for the code, which makes the tests one by one
pub ruleset in_order = (nat_tests, found_some, found_none, sound)

-- what an admitted claim's shape says
pub ruleset known = (admitted, sound, sets_all)
