-- `solver::text::put_quantifiers` meets its contract: the next lines behind those that are put. Assumes nothing.
use Rattle.std.proofs.Common.{arith, length-append}
use native.Mathlib.Nat.{lt_of_le_of_lt}
use lib.Dec.{lit<}
use Rattle.checker.specs.declared.Dialect.TheVariants.{Emitted}
use Rattle.checker.specs.Dialect.{most_quantifiers}
use Rattle.solver.specs.Laid.{Ten}
use Rattle.solver.proofs.Steps.{quantifiers_more}
use Rattle.solver.proofs.text.put_quantifiers.Goals as goal

pub loop-i-preserved : goal.loop-i-preserved
loop-i-preserved g c =
    let more = quantifiers_more c.args.words.now c.args.shape.nodes c.loop-i.i c.requires.nodes (omega arith) c.word.ensures in
    let ten : Ten c.loop-i.i = lt_of_le_of_lt {m = most_quantifiers Emitted} (omega (arith, c.requires.few_quantifiers)) (lit< tt) in
    record {
      put = rw more (g.met.S.Sink.joined _ _ _ _ _ c.loop-i.invariant.put c.put_quantifier.ensures.put);
      short = rw (more, length-append) (omega (arith, c.loop-i.invariant.short, c.put_quantifier.ensures.short ten));
    }
