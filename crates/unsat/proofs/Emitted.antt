-- The emission of a claim that the checker accepts is an emitted table: it speaks of numbers alone and is within the limits. Assumes nothing.
use Rattle.std.proofs.Common.{Ok}
use mathlib.Core.Path.{◌≡◌, refl}
use mathlib.Core.Bool.{false}
use mathlib.Core.List.{List, [], ◌∷◌}
use Prim.Native.Nat.{ℕ, zero, suc}
use lib.ListN.{get_or}
use Rattle.checker.specs.declared.Dialect.TheVariants.{Emitted}
use Rattle.checker.specs.Claim.{Node, Claim, unknown}
use Rattle.checker.specs.Kinds.{is_set}
use Rattle.checker.specs.Words.{words_of}
use Rattle.checker.specs.Sorts.{sort, WellSorted}
use Rattle.checker.specs.Check.{check_as}
use Rattle.checker.specs.Accepted.{Limited, KindsTaken, claim_shape}
use Rattle.checker.proofs.Emitted.{emitted_accepted}
use Rattle.emission.specs.Emission.{emission}
use Rattle.reducer.specs.Sizes.{NoSetNodes}
use Rattle.reducer.proofs.NoSets.{emission_no_set_nodes, emission_no_sets}
use Rattle.reducer.proofs.Closed.{emission_sorted}
use Rattle.reducer.proofs.Sizes.{nodes_limit, quantifiers_limit}
use Rattle.sentence.specs.Sentences.{AllPlain, Plain}
use Rattle.sentence.proofs.Plain.{plain_claim}

no_set_at : (ns : List Node) → NoSetNodes ns → (i : ℕ) → is_set (sort (get_or ns i unknown)) ≡ false
no_set_at [] h i = refl
no_set_at (n ∷ ns) (h, hs) zero = h
no_set_at (n ∷ ns) (h, hs) (suc i) = no_set_at ns hs i

pub plain_emission : (c : Claim) → WellSorted c → Plain (emission c)
plain_emission c h = plain_claim (emission c) (emission_sorted c h) (no_set_at (emission c).nodes (emission_no_set_nodes c)) (emission_no_sets c)

taken_nodes : (ns : List Node) → AllPlain ns → KindsTaken Emitted ns
taken_nodes [] p = tt
taken_nodes (n ∷ ns) (p, ps) = (p, taken_nodes ns ps)

pub emission_accepted : (c : Claim) → WellSorted c → Limited c → check_as Emitted (words_of (emission c)) ≡ Ok (claim_shape (emission c))
emission_accepted c h l =
    emitted_accepted (emission c) (emission_sorted c h) (nodes_limit c l.few_nodes l.few_sets) (quantifiers_limit c l.few_quantifiers l.few_sets)
    (taken_nodes (emission c).nodes (plain_emission c h).nodes) (emission_no_sets c)
