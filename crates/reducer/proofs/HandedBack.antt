-- The emission handed back to the checker: accepted within the limits of a claim, and refused by number 2 past them.
-- Assumes nothing.
use mathlib.Core.Path.{◌≡◌}
use Prim.Native.Nat.{◌-◌, ◌<◌, ◌≤◌}
use native.Mathlib.Omega.{arith}
use lib.ListN.{length}
use Rattle.std.specs.Prelude.{Ok, Err}
use Rattle.checker.specs.declared.Dialect.TheVariants.{SetClaims}
use Rattle.checker.specs.declared.refusals.Refusal.TheVariants as refused
use Rattle.checker.specs.Claim.{Claim}
use Rattle.checker.specs.Words.{words_of}
use Rattle.checker.specs.Sorts.{WellSorted}
use Rattle.checker.specs.Accepted.{claim_shape}
use Rattle.checker.specs.Check.{max_nodes, max_quantifiers, check_of}
use Rattle.checker.proofs.Accepted.{claim_accepted}
use Rattle.checker.proofs.Verdict.{too_many_nodes, too_many_quantifiers}
use Rattle.checker.proofs.Words.{words-length, nodes_word, quantifiers_word, mark_word}
use Rattle.emission.specs.Emission.{emission}
use Rattle.reducer.proofs.Closed.{emission_sorted}
use Rattle.reducer.proofs.NoSets.{emission_no_sets}

pub within_accepted : (c : Claim) → WellSorted c → length (emission c).nodes ≤ max_nodes → length (emission c).quantifiers ≤ max_quantifiers
    → check_of (words_of (emission c)) ≡ Ok (claim_shape (emission c))
within_accepted c h n q =
    let s = emission_sorted c h in
    claim_accepted (emission c)
    (record {
      some_nodes = omega (arith, s.1.0);
      few_nodes = n;
      few_quantifiers = q;
      few_sets = omega (arith, emission_no_sets c);
    })
    s

-- ---- past the limits

enough_words : (c : Claim) → 4 ≤ length (words_of c)
enough_words c = omega (arith, words-length c)

pub past_nodes_refused : (c : Claim) → max_nodes < length (emission c).nodes
    → check_of (words_of (emission c)) ≡ Err (refused.Count (length (words_of (emission c)) - 3))
unfolding check_of
past_nodes_refused c h =
    let out = emission c in
    too_many_nodes SetClaims (words_of out) (enough_words out) (mark_word out) (omega (arith, nodes_word out))

pub past_quantifiers_refused : (c : Claim) → WellSorted c → length (emission c).nodes ≤ max_nodes → max_quantifiers < length (emission c).quantifiers
    → check_of (words_of (emission c)) ≡ Err (refused.Count (length (words_of (emission c)) - 2))
unfolding check_of
past_quantifiers_refused c s n h =
    let out = emission c in
    too_many_quantifiers SetClaims (words_of out) (enough_words out) (mark_word out) (omega (arith, nodes_word out, (emission_sorted c s).1.0))
    (omega (arith, nodes_word out)) (omega (arith, quantifiers_word out))
