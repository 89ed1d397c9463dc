-- `text::lines::put_nodes` meets its contract: the lines of the nodes that are left are still to be put. Assumes nothing.
use Rattle.std.proofs.Common.{◌≡◌, ◌*◌, ◌-◌, length, take, arith, length-take, length-append, ap, ◌∙◌}
use Rattle.std.specs.Slice.Iter.{chunks_rest, chunks_size}
use Rattle.lent.proofs.Writing.{rest_start, rest_step, rest_end}
use Rattle.text.proofs.Tables.{lines_taken, lines_none, lines_step}
use Rattle.text.proofs.lines.put_nodes.Goals as goal

pub loop-node-init : goal.loop-node-init
loop-node-init c =
    let n = c.args.nodes in
    let ws = c.args.words.now in
    let whole : chunks_rest c.into_iter-node-iterator.result ≡ take (3 * n) ws = cc in
    let size : chunks_size c.into_iter-node-iterator.result ≡ 3 = cc in (
      n,
      rw (whole, length-take) (omega (arith, c.requires.nodes_in_bounds)),
      size,
      omega arith,
      rw (whole, lines_taken n ws) rest_start,
    )

pub loop-node-preserved : goal.loop-node-preserved
loop-node-preserved c =
    let left = c.loop-node.invariant in
    let put = c.put_line-here.ensures in
    let step = c.in-Some.ensures.steps in
    let three : length c.in-Some.node.now ≡ 3 = omega (arith, step, left) in
    let fewer = ap length step.1.0 ∙ length-append c.in-Some.node.now _ in (
      left.0 - 1,
      omega arith,
      step.0 ∙ left.2,
      omega (arith, put.upper_bound, left.3),
      rest_step (lines_step left.0 _ _ step.1.0 three (omega (arith, step, left))) left.4 put.wrote,
    )

pub returns : goal.returns
returns c =
    let left = c.loop-node.invariant in
    let none : left.0 ≡ 0 = omega (arith, c.in-None.ensures.steps.1.0, left.1) in
    record {
      wrote = rest_end (lines_none left.0 _ none) left.4;
      upper_bound = omega (arith, left.3);
    }
