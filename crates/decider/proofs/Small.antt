-- P8: 01's small claims have their known outcomes. The rule is computed, and its truth is the meaning's by P6. Assumes nothing.
use mathlib.Core.Path.{◌≡◌, refl}
use mathlib.Core.Logic.Iff
use mathlib.Core.Bool.{Bool, true, false, ◌&&◌, beq}
use mathlib.Core.List.{List, [], ◌∷◌}
use lib.Dec.{T, eqb, eqb→eq}
use Rattle.checker.specs.Kinds.{number, node_of, quantifier_of}
use Rattle.checker.specs.Words.{word_at, claim_of}
use Rattle.checker.specs.Sorts.{sets}
use Rattle.checker.specs.Meaning.{value_of, values, matrix, set_at, num_at, truth_at}
use Rattle.region.specs.Regions.{over}
use Rattle.decider.specs.Rule.{joined, tries, rule}
use Rattle.matrix.specs.Final.{final_values}
use Rattle.decider.specs.Plan.{some_at, ruling, only_sets}
use Rattle.decider.specs.Small.{Case, Right, AllRight, small_claims}
use Rattle.decider.proofs.Truth.{rule_true}

-- One computed test for each case, and what it says.
passes : Case → Bool
passes k =
    let c = claim_of k.words in
    let r = ruling k.size c in
    only_sets c.quantifiers && (beq r.truth k.truth && eqb r.steps k.steps)

all_pass : List Case → Bool
all_pass [] = true
all_pass (k ∷ ks) = passes k && all_pass ks

beq_is : (a b : Bool) → T (beq a b) → a ≡ b
beq_is true true t = refl
beq_is true false t = absurd t
beq_is false true t = absurd t
beq_is false false t = refl

both_told : (a b : Bool) → T (a && b) → T a × T b
both_told true b t = (tt, t)
both_told false b t = absurd t

right : (k : Case) → T (passes k) → Right k
unfolding passes
right k t =
    let c = claim_of k.words in
    let r = ruling k.size c in
    let a = both_told (only_sets c.quantifiers) (beq r.truth k.truth && eqb r.steps k.steps) t in
    let b = both_told (beq r.truth k.truth) (eqb r.steps k.steps) a.1 in
    (rw (beq_is r.truth k.truth b.0) at (Iff.symm (rule_true k.size c a.0)), eqb→eq r.steps k.steps b.1)

all_right : (ks : List Case) → T (all_pass ks) → AllRight ks
unfolding all_pass
all_right [] t = tt
all_right (k ∷ ks) t = let a = both_told (passes k) (all_pass ks) t in (right k a.0, all_right ks a.1)

pub small : AllRight small_claims
unfolding passes all_pass number node_of quantifier_of word_at claim_of sets value_of values matrix set_at num_at truth_at over joined tries rule final_values some_at ruling only_sets
small = all_right small_claims tt
