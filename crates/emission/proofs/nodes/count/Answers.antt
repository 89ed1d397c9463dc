-- `emission::nodes::count` meets its contract: what is counted is what stands after the nodes passed. Assumes nothing.
use mathlib.Core.Path.{◌≡◌, sym, ap, ◌∙◌}
use Prim.Native.Nat.{ℕ, ◌+◌, ◌-◌, ◌<◌}
use native.Mathlib.Omega.{arith}
use lib.ListN.{length, get_or, length-append}
use Rattle.checker.specs.Words.{claim_of}
use Rattle.emission.specs.declared.Body.{Body}
use Rattle.emission.specs.Runs.{emitted_to, run_at}
use Rattle.checker.proofs.Claims.{sound}
use Rattle.emission.proofs.Walk.{nodes_next, stands_here, stands_before, emitted_none, root_is, body_is}
use Rattle.emission.proofs.Ready.{patterned_start}
use Rattle.emission.proofs.nodes.count.Goals as goal
use Rattle.emission.proofs.nodes.count.Goals.{then-i-shape, else-i-shape}

pub loop-i-init : goal.loop-i-init
loop-i-init c =
    record {
      patterned = patterned_start c.args.words.now c.requires.words_value.0 c.requires.roomy;
      nodes = sym (ap length (emitted_none (claim_of c.args.words.now)));
      few = omega arith;
      root = λ h. absurd (omega arith);
    }

pub loop-i-preserved : goal.loop-i-preserved
loop-i-preserved c =
    let l = c.loop-i in
    let claim = claim_of c.args.words.now in
    let inside : l.i < length claim.nodes = omega (arith, (sound c.args.words.now c.args.shape c.requires.words_value.0).nodes) in
    let run = c.run_length.ensures in
    let long = ap length (nodes_next claim l.i inside) ∙ length-append (emitted_to claim l.i).nodes (run_at claim l.i) in
    let nodes : c.if-i-shape.body.nodes ≡ l.body.nodes + c.run_length.result =
    elim c.if-i-shape.branch [ then-i-shape w ↦ ap (λ (b : Body). b.nodes) w.body-is | else-i-shape w ↦ ap (λ (b : Body). b.nodes) w.body-is ] in
    record {
      patterned = run.patterned;
      nodes = omega (arith, nodes, run.value.0, l.invariant.nodes, long);
      few = omega (arith, nodes, run.value.1, l.invariant.few);
      root = elim c.if-i-shape.branch [
        | then-i-shape w ↦ λ h.
            let last : l.body.nodes + c.run_length.result - 1 ≡ length (emitted_to claim l.i).nodes + length (run_at claim l.i) - 1 =
            omega (arith, run.value.0, l.invariant.nodes) in
            ap (λ (b : Body). b.root) w.body-is ∙ w.saturating_sub.ensures ∙ last ∙ sym (stands_here claim l.i inside)
            ∙ ap (λ (r : ℕ). get_or (emitted_to claim (l.i + 1)).stands r 0) w.if-i-shape.true
        | else-i-shape w ↦ λ h.
            let earlier : c.args.shape.root < l.i = omega (arith, h, w.if-i-shape.false) in
            ap (λ (b : Body). b.root) w.body-is ∙ l.invariant.root earlier ∙ sym (stands_before claim l.i inside c.args.shape.root earlier)
      ];
    }

pub returns-clause-nodes_value : goal.returns-clause-nodes_value
returns-clause-nodes_value c =
    let l = c.loop-i in
    let claim = sound c.args.words.now c.args.shape c.requires.words_value.0 in
    let all : l.i ≡ length (claim_of c.args.words.now).nodes = omega (arith, claim.nodes) in
    let root : c.args.shape.root < l.i = omega (arith, all, claim.root, claim.sorted.1.0) in (
      l.invariant.nodes ∙ ap (λ (k : ℕ). length (emitted_to (claim_of c.args.words.now) k).nodes) all ∙ ap length (body_is (claim_of c.args.words.now)),
      l.invariant.root root ∙ rw (all, claim.root) (root_is (claim_of c.args.words.now)),
    )
