-- `solver::text::put_nodes` meets its contract: one more line behind those that are put. Assumes nothing.
use Rattle.std.proofs.Common.{arith, length-append}
use native.Mathlib.Nat.{lt_of_le_of_lt}
use lib.Dec.{lit<}
use Rattle.checker.specs.declared.Dialect.TheVariants.{Emitted}
use Rattle.checker.specs.Dialect.{most_nodes}
use Rattle.solver.specs.Laid.{Ten}
use Rattle.solver.proofs.Steps.{nodes_more}
use Rattle.solver.proofs.text.put_nodes.Goals as goal

pub loop-i-preserved : goal.loop-i-preserved
loop-i-preserved g c =
    let more = nodes_more c.args.words.now c.loop-i.i (omega arith) in
    let ten : Ten c.loop-i.i = lt_of_le_of_lt {m = most_nodes Emitted} (omega (arith, c.requires.few_nodes)) (lit< tt) in
    record {
      put = rw more (g.met.S.Sink.joined _ _ _ _ _ c.loop-i.invariant.put c.put_node.ensures.put);
      short = rw (more, length-append) (omega (arith, c.loop-i.invariant.short, c.put_node.ensures.short ten));
    }
