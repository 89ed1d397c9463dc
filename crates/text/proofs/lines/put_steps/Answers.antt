-- `text::lines::put_steps` meets its contract. Assumes nothing.
use native.Mathlib.Omega.{arith}
use Rattle.lent.proofs.Writing.{wrote_then}
use Rattle.text.specs.Answer.{steps_text}
use Rattle.text.proofs.Printing.{printed}
use Rattle.text.proofs.lines.put_steps.Goals as goal

pub returns : goal.returns
unfolding steps_text
returns c =
    let mark = c.put_mark-end.ensures in
    let end = c.put.ensures in
    printed (wrote_then mark.wrote end) (omega (arith, mark.upper_bound, end.after, c.requires))
