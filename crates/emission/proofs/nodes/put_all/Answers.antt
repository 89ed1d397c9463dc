-- `emission::nodes::put_all` meets its contract: what is written is what stands after the nodes passed. Assumes nothing.
use mathlib.Core.Path.{◌≡◌, refl, ap, ◌∙◌}
use Prim.Native.Nat.{ℕ, ◌+◌, ◌-◌, ◌<◌}
use native.Mathlib.Nat.{zero-add}
use native.Mathlib.Omega.{arith}
use lib.ListN.{length, length-append, length-set}
use Rattle.checker.specs.Words.{claim_of}
use Rattle.emission.specs.Runs.{emitted_to, run_at}
use Rattle.checker.proofs.Claims.{sound}
use Rattle.emission.proofs.Walk.{nodes_next, emitted_within, standing_none, standing_next, emitted_none, body_is}
use Rattle.emission.proofs.Writing.{nodes_after, nodes_none, nodes_then, room_after}
use Rattle.emission.proofs.Ready.{patterned_start}
use Rattle.emission.proofs.nodes.put_all.Goals as goal

pub loop-i-init : goal.loop-i-init
loop-i-init c =
    let claim = sound c.args.words.now c.args.shape c.requires.words_value.0 in
    record {
      long = refl;
      patterned = patterned_start c.args.words.now c.requires.words_value.0 c.requires.roomy;
      standing = standing_none _ _ (omega (arith, claim.nodes, claim.few_nodes));
      wrote = rw (emitted_none (claim_of c.args.words.now)) (nodes_none _ 0);
    }

pub put_run-at-requires-clause-at_value : goal.put_run-at-requires-clause-at_value
put_run-at-requires-clause-at_value c =
    let l = c.loop-i in
    let claim = claim_of c.args.words.now in
    let inside : l.i < length claim.nodes = omega (arith, (sound c.args.words.now c.args.shape c.requires.words_value.0).nodes) in
    let long = ap length (nodes_next claim l.i inside) ∙ length-append (emitted_to claim l.i).nodes (run_at claim l.i) in (
      nodes_after l.invariant.wrote ∙ zero-add _,
      room_after _ (omega (arith, long, emitted_within claim (l.i + 1))) c.requires.room l.invariant.wrote,
    )

pub loop-i-preserved : goal.loop-i-preserved
loop-i-preserved c =
    let l = c.loop-i in
    let claim = claim_of c.args.words.now in
    let inside : l.i < length claim.nodes = omega (arith, (sound c.args.words.now c.args.shape c.requires.words_value.0).nodes) in
    let put = c.put_run-at.ensures in
    let at : l.at ≡ length (emitted_to claim l.i).nodes = nodes_after l.invariant.wrote ∙ zero-add _ in
    let next = ap (λ (n : ℕ). n - 1) (nodes_after put.wrote_nodes ∙ ap (λ (k : ℕ). k + length (run_at claim l.i)) at) in
    record {
      long = simp length-set l.invariant.long;
      patterned = put.patterned;
      standing = standing_next claim l.i inside l.invariant.standing (c.saturating_sub.ensures ∙ next);
      wrote = nodes_then (nodes_next claim l.i inside) l.invariant.wrote put.wrote_nodes;
    }

pub returns : goal.returns
returns c =
    let claim = sound c.args.words.now c.args.shape c.requires.words_value.0 in
    let all : c.loop-i.i ≡ length (claim_of c.args.words.now).nodes = omega (arith, claim.nodes) in
    rw (ap (λ (k : ℕ). (emitted_to (claim_of c.args.words.now) k).nodes) all ∙ body_is (claim_of c.args.words.now)) at c.loop-i.invariant.wrote
