-- Emitted tables: no quantifier binds a set, and every kind speaks of numbers. So an accepted one speaks of numbers alone, and what does is accepted.
-- Assumes nothing.
use Rattle.std.proofs.Common.{Ok}
use mathlib.Core.Path.{◌≡◌, refl}
use mathlib.Core.Bool.{true, false, false≢true}
use mathlib.Core.List.{List, [], ◌∷◌}
use Prim.Native.Nat.{◌≤◌}
use native.Mathlib.Omega.{arith}
use lib.ListN.{length}
use Rattle.checker.specs.declared.Dialect.TheVariants.{Emitted}
use Rattle.checker.specs.Claim.{Quantifier, int_q, set_q, count_q, Claim}
use Rattle.checker.specs.Kinds.{number, range_of}
use Rattle.checker.specs.Words.{words_of}
use Rattle.checker.specs.Sorts.{WellSorted, sets}
use Rattle.checker.specs.Dialect.{most_nodes, most_quantifiers}
use Rattle.checker.specs.Check.{check_as}
use Rattle.checker.specs.Accepted.{KindsTaken, QuantifiersTaken, claim_shape}
use Rattle.checker.proofs.Accepted.{claim_accepted_as}

pub no_sets : (qs : List Quantifier) → QuantifiersTaken Emitted qs → sets qs ≡ 0
unfolding sets range_of number
no_sets [] t = refl
no_sets (int_q some ∷ qs) (e, es) = no_sets qs es
no_sets (set_q true ∷ qs) (e, es) = absurd (false≢true e)
no_sets (set_q false ∷ qs) (e, es) = absurd (false≢true e)
no_sets (count_q some ∷ qs) (e, es) = no_sets qs es

pub without_sets : (qs : List Quantifier) → sets qs ≡ 0 → QuantifiersTaken Emitted qs
unfolding sets range_of number
without_sets [] e = tt
without_sets (int_q true ∷ qs) e = (refl, without_sets qs e)
without_sets (int_q false ∷ qs) e = (refl, without_sets qs e)
without_sets (set_q some ∷ qs) e = absurd (omega arith)
without_sets (count_q true ∷ qs) e = (refl, without_sets qs e)
without_sets (count_q false ∷ qs) e = (refl, without_sets qs e)

pub emitted_accepted : (c : Claim) → WellSorted c → length c.nodes ≤ most_nodes Emitted → length c.quantifiers ≤ most_quantifiers Emitted
    → KindsTaken Emitted c.nodes → sets c.quantifiers ≡ 0 → check_as Emitted (words_of c) ≡ Ok (claim_shape c)
emitted_accepted c s n q t e =
    claim_accepted_as Emitted c
    (record {
      some_nodes = omega (arith, s.1.0);
      few_nodes = n;
      few_quantifiers = q;
      few_sets = omega arith;
    })
    (record { nodes = t; quantifiers = without_sets c.quantifiers e })
    s
