-- `smt_text::answer_smt` meets its contract. Assumes nothing.
use Rattle.std.proofs.Common.{arith}
use Rattle.text.proofs.Answers.{readings}
use Rattle.smt_text.specs.Answer.{smt_text}
use Rattle.smt_text.proofs.Whole.{always_whole}
use Rattle.smt_text.proofs.answer_smt.Goals as goal

pub returns : goal.returns
unfolding smt_text
returns c =
    let whole = always_whole c.args.input.now in
    grind (arith, readings)
