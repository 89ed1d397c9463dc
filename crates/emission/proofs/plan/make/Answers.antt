use mathlib.Core.Path.{◌≡◌}
use mathlib.Core.Bool.{true}
use Prim.Native.Nat.{◌<◌}
use native.Mathlib.Omega.{arith}
use lib.ListN.{length, take}
use Rattle.checker.specs.Claim.{int_q}
use Rattle.checker.specs.Words.{claim_of}
use Rattle.checker.proofs.Claims.{sound}
use Rattle.emission.proofs.Claims.{quantifier_at_lem}
use Rattle.emission.proofs.Steps.{next_taken}
use Rattle.emission.proofs.Frames.{says_none, says_small, noted_none, noted_more}
use Rattle.emission.proofs.plan.make.Goals as goal

pub loop-j-init : goal.loop-j-init
loop-j-init c = record { says = says_none; noted = noted_none _ _ _ }

pub inside-frame-requires : goal.inside-frame-requires
inside-frame-requires c =
    let claim = sound c.args.words.now c.args.shape c.requires.0 in
    let l = c.loop-j in
    let small =
    says_small (claim_of c.args.words.now).quantifiers l.j (omega (arith, claim.quantifiers, claim.few_quantifiers)) (omega (arith, claim.sets, claim.few_sets)) l.invariant.says in
    (omega (arith, small.0), small.1)

pub loop-j-preserved : goal.loop-j-preserved
loop-j-preserved c =
    let l = c.loop-j in
    let a = c.args in
    let qs = (claim_of a.words.now).quantifiers in
    let claim = sound a.words.now _ c.requires.0 in
    let more : l.j < length qs = omega (arith, claim.quantifiers) in
    record {
      says = rw (next_taken qs (int_q true) l.j more, quantifier_at_lem a.words.now a.shape.nodes l.j claim.nodes more, ← c.word.ensures)
          (c.inside-frame.ensures (take l.j qs) l.invariant.says);
      noted = noted_more l.invariant.noted l.invariant.says (omega arith) c.requires.1 c.put_frame.ensures;
    }

pub overflow_mul-shape : goal.overflow_mul-shape
overflow_mul-shape c = omega (arith, (sound c.args.words.now _ c.requires.0).few_nodes)

pub overflow_add-shape : goal.overflow_add-shape
overflow_add-shape c = omega (arith, (sound c.args.words.now _ c.requires.0).few_nodes)

pub returns-clause-planned : goal.returns-clause-planned
returns-clause-planned c =
    let l = c.loop-j in
    let end : l.j ≡ c.args.shape.quantifiers = omega arith in
    let claim = sound c.args.words.now _ c.requires.0 in
    let all = noted_more l.invariant.noted l.invariant.says (omega arith) c.requires.1 (rw (← end) at c.put_frame-2.ensures) in
    record {
      long = omega (arith, all.long, claim.quantifiers, c.requires.1);
      says = λ j h. all.says j (omega (arith, claim.quantifiers));
    }
