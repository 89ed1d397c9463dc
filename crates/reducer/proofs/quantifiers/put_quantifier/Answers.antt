-- `reducer::quantifiers::put_quantifier` meets its contract: one law for each kind of quantifier. Assumes nothing.
use mathlib.Core.Path.{sym, ◌∙◌}
use native.Mathlib.Omega.{arith}
use Rattle.emission.proofs.Writing.{said}
use Rattle.reducer.proofs.Joining.{in_claim, frame_within, other_kind}
use Rattle.reducer.proofs.Becoming.{kind_small, some_becomes, all_becomes, number_becomes}
use borrow.Author.Rules.{rules}
use Rattle.reducer.proofs.quantifiers.put_quantifier.Goals as goal

pub frame_at-frame-requires : goal.frame_at-frame-requires
frame_at-frame-requires c =
    let p = c.requires.0 in
    omega (arith, p.planned.long, in_claim p c.args.j c.requires.1)

pub overflow_shl-frame : goal.overflow_shl-frame
overflow_shl-frame c =
    omega (arith, (frame_within c.requires.0 c.args.j c.requires.1 c.frame_at-frame.ensures).level)

pub put_repeated-requires : goal.put_repeated-requires
put_repeated-requires c =
    let run = some_becomes c.requires.0 c.args.j c.requires.1 c.frame_at-frame.ensures (sym c.word.ensures ∙ c.in-3.is) in
    rw (said _ c.word-in-3.type_inv, c.word-in-3.ensures, ← run) (record { fits = c.requires.2 })

pub overflow_shl-frame-in-4 : goal.overflow_shl-frame-in-4
overflow_shl-frame-in-4 c =
    omega (arith, (frame_within c.requires.0 c.args.j c.requires.1 c.frame_at-frame.ensures).level)

pub put_repeated-requires-in-4 : goal.put_repeated-requires-in-4
put_repeated-requires-in-4 c =
    let run = all_becomes c.requires.0 c.args.j c.requires.1 c.frame_at-frame.ensures (sym c.word.ensures ∙ c.in-4.is) in
    rw (said _ c.word-in-4.type_inv, c.word-in-4.ensures, ← run) (record { fits = c.requires.2 })

pub word-requires-in_default : goal.word-requires-in_default
word-requires-in_default c =
    omega (arith, kind_small c.requires.0 c.args.j c.requires.1 c.word.result c.word.ensures)

pub put-requires : goal.put-requires
put-requires c =
    let kind = c.word in
    let run = number_becomes c.requires.0 c.args.j c.requires.1 kind.result kind.ensures (other_kind kind.result (search rules) (search rules)) in
    rw (said _ c.word-in_default.type_inv, c.word-in_default.ensures, ← run) (record { fits = c.requires.2 })

pub returns-in-3 : goal.returns-in-3
returns-in-3 c =
    rw (some_becomes c.requires.0 c.args.j c.requires.1 c.frame_at-frame.ensures (sym c.word.ensures ∙ c.in-3.is))
    (rw (said _ c.word-in-3.type_inv, c.word-in-3.ensures) at c.put_repeated.ensures)

pub returns-in-4 : goal.returns-in-4
returns-in-4 c =
    rw (all_becomes c.requires.0 c.args.j c.requires.1 c.frame_at-frame.ensures (sym c.word.ensures ∙ c.in-4.is))
    (rw (said _ c.word-in-4.type_inv, c.word-in-4.ensures) at c.put_repeated-in-4.ensures)

pub returns-in_default : goal.returns-in_default
returns-in_default c =
    let kind = c.word in
    rw (number_becomes c.requires.0 c.args.j c.requires.1 kind.result kind.ensures (other_kind kind.result (search rules) (search rules)))
    (rw (said _ c.word-in_default.type_inv, c.word-in_default.ensures) at c.put.ensures)
