-- `text::lines::put_refusal` meets its contract. Assumes nothing.
use native.Mathlib.Omega.{arith}
use Rattle.lent.proofs.Writing.{wrote_then}
use Rattle.text.specs.Answer.{refused_text}
use Rattle.text.proofs.Printing.{printed}
use Rattle.text.proofs.lines.put_refusal.Goals as goal

pub returns : goal.returns
unfolding refused_text
returns c =
    let number = c.put_mark-space.ensures in
    let place = c.put_mark-end.ensures in
    let end = c.put.ensures in
    printed (wrote_then number.wrote (wrote_then place.wrote end)) (omega (arith, number.upper_bound, place.upper_bound, end.after, c.requires))
