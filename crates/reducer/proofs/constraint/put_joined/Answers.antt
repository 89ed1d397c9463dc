-- `reducer::constraint::put_joined` meets its contract: one law for each kind of quantifier. Assumes nothing.
use mathlib.Core.Path.{sym, ◌∙◌}
use native.Mathlib.Omega.{arith}
use Rattle.reducer.proofs.Joining.{other_kind, in_claim, frame_within, root_small, some_room, some_done, all_room, all_done, number_done}
use borrow.Author.Rules.{rules}
use Rattle.reducer.proofs.constraint.put_joined.Goals as goal

pub frame_at-frame-requires : goal.frame_at-frame-requires
frame_at-frame-requires c =
    let p = c.requires.prepared.0 in
    omega (arith, p.planned.long, in_claim p c.args.j c.requires.prepared.1)

pub put_some-requires : goal.put_some-requires
put_some-requires c =
    let pre = c.requires.prepared in
    let e = c.frame_at-frame.ensures in
    let kind = sym c.word.ensures ∙ c.in-3.is in (
      some_room pre.0 c.args.j pre.1 pre.2 e kind c.requires.room,
      frame_within pre.0 c.args.j pre.1 e,
      root_small pre.0 c.args.j pre.1 pre.2 e c.requires.room,
    )

pub put_all-requires : goal.put_all-requires
put_all-requires c =
    let pre = c.requires.prepared in
    let e = c.frame_at-frame.ensures in
    let kind = sym c.word.ensures ∙ c.in-4.is in (
      all_room pre.0 c.args.j pre.1 pre.2 e kind c.requires.room,
      frame_within pre.0 c.args.j pre.1 e,
      root_small pre.0 c.args.j pre.1 pre.2 e c.requires.room,
    )

pub returns-in-3 : goal.returns-in-3
returns-in-3 c =
    let pre = c.requires.prepared in
    let e = c.frame_at-frame.ensures in
    let kind = sym c.word.ensures ∙ c.in-3.is in
    let put = c.put_some.ensures in
    let done = some_done pre.0 c.args.j pre.1 pre.2 e kind put.wrote_nodes put.root_value in
    record { tells = done.0; wrote_nodes = done.1 }

pub returns-in-4 : goal.returns-in-4
returns-in-4 c =
    let pre = c.requires.prepared in
    let e = c.frame_at-frame.ensures in
    let kind = sym c.word.ensures ∙ c.in-4.is in
    let put = c.put_all.ensures in
    let done = all_done pre.0 c.args.j pre.1 pre.2 e kind put.wrote_nodes put.root_value in
    record { tells = done.0; wrote_nodes = done.1 }

pub returns-in_default : goal.returns-in_default
returns-in_default c =
    let pre = c.requires.prepared in
    let done = number_done pre.0 c.args.j pre.1 c.word.result c.word.ensures (other_kind c.word.result (search rules) (search rules)) pre.2 in
    record { tells = done.0; wrote_nodes = done.1 }
