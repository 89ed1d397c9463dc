-- `solver::expression::put_divided` meets its contract: a law for each sign. Assumes nothing.
use Rattle.std.proofs.Common.{sym, ◌∙◌}
use Rattle.std.proofs.lemmas.Int.{to_z-of_z}
use mir.Syntax.{w32}
use Rattle.solver.proofs.Forms.{divided_0, divided_below, divided_above}
use Rattle.solver.proofs.expression.put_divided.Goals as goal

pub returns-then-n-eq0 : goal.returns-then-n-eq0
returns-then-n-eq0 g c =
    let n = c.from-n.ensures ∙ rw (to_z-of_z w32 c.args.w c.ranges.w) at c.unsigned_abs.ensures.value in
    rw (divided_0 c.args.w c.args.b (sym n ∙ c.if-n-eq0.true)) c.put_one.ensures

pub returns-then-w-lt0 : goal.returns-then-w-lt0
returns-then-w-lt0 g c =
    let n = c.from-n.ensures ∙ rw (to_z-of_z w32 c.args.w c.ranges.w) at c.unsigned_abs.ensures.value in
    rw (divided_below c.args.w c.args.b (rw (to_z-of_z w32 c.args.w c.ranges.w) at c.if-w-lt0.true), ← n) c.put_two.ensures

pub returns-else-w-lt0 : goal.returns-else-w-lt0
returns-else-w-lt0 g c =
    let n = c.from-n.ensures ∙ rw (to_z-of_z w32 c.args.w c.ranges.w) at c.unsigned_abs.ensures.value in
    let sign = rw (to_z-of_z w32 c.args.w c.ranges.w) at c.if-w-lt0.false in
    rw (divided_above c.args.w c.args.b (λ z. c.if-n-eq0.false (n ∙ z)) sign, ← n) c.put_two-else-w-lt0.ensures
