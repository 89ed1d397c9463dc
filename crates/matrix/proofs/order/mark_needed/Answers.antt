use Rattle.std.proofs.Common.{◌-◌, Bool, length-set, arith}
use Rattle.checker.specs.Words.{claim_of}
use Rattle.checker.proofs.Claims.{sound}
use Rattle.matrix.proofs.Marks.{mark_new, node_is, children_within, closed_skip, closed_more}
use Rattle.matrix.proofs.order.mark_needed.Goals as goal

pub bounds-marks-shape : goal.bounds-marks-shape
bounds-marks-shape c =
    let ok = sound _ _ c.requires.words_value in
    omega (arith, ok.nodes, ok.root, ok.sorted.1.0)

pub loop-i-init : goal.loop-i-init
loop-i-init c =
    let ok = sound _ _ c.requires.words_value in record {
      root = mark_new c.args.marks.now c.args.shape.root (omega (arith, ok.nodes, ok.root, ok.sorted.1.0));
      closed = λ x l m. absurd (omega (arith, ok.nodes));
    }

pub operands_of-requires : goal.operands_of-requires
operands_of-requires c =
    omega (arith, (sound _ _ c.requires.words_value).long)

pub mark-requires : goal.mark-requires
mark-requires c =
    children_within _ _ c.requires.words_value (c.loop-i.i - 1) (omega arith) _ (omega (arith, length-set {A = Bool})) _ c.operands_of.ensures

pub loop-i-preserved-then-marks-i : goal.loop-i-preserved-then-marks-i
loop-i-preserved-then-marks-i c =
    let ok = sound _ _ c.requires.words_value in
    let i = c.loop-i.i - 1 in
    let is = node_is _ _ c.requires.words_value i (omega arith) in
    let more = rw (c.operands_of.ensures, ← is) at c.mark.ensures in record {
      root = more.still _ c.loop-i.invariant.root;
      closed = closed_more (claim_of c.args.words.now) ok.sorted.0 _ i (omega (arith, ok.nodes)) (λ x l. c.loop-i.invariant.closed x (omega arith)) _ more;
    }

pub loop-i-preserved : goal.loop-i-preserved
loop-i-preserved c =
    let ok = sound _ _ c.requires.words_value in record {
      root = c.loop-i.invariant.root;
      closed = closed_skip (claim_of c.args.words.now) ok.sorted.0 _ (c.loop-i.i - 1) (omega (arith, ok.nodes)) (λ x l. c.loop-i.invariant.closed x (omega arith)) c.if-marks-i.false;
    }

pub returns : goal.returns
returns c =
    let ok = sound _ _ c.requires.words_value in record {
      root = rw (← ok.root) c.loop-i.invariant.root;
      children_too = λ i h e. c.loop-i.invariant.closed i (omega arith) h e;
    }
