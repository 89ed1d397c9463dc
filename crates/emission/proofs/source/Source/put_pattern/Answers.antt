-- `Source::put_pattern` meets its contract: kind by kind, what node i asks and what its pattern is. Assumes nothing.
use mathlib.Core.Path.{sym, ◌∙◌}
use native.Mathlib.Omega.{arith}
use Rattle.emission.proofs.Ready.{known, ready_at}
use Rattle.emission.proofs.Sets.{entry_here, sets_room, some_sets, variable_child, level_at, union_children, inter_children, compl_child, last_set, set_variable, set_empty, set_whole, set_union, set_inter, set_compl}
use borrow.Author.Rules.{rules}
use Rattle.emission.proofs.source.Source.put_pattern.Goals as goal

pub frame_at-outside-requires : goal.frame_at-outside-requires
frame_at-outside-requires c =
    let ready = ready_at c.args.self.now c.requires.0 in
    let bound = variable_child ready c.requires.1 (sym c.node-kind.ensures.kind ∙ c.in-1.is) in
    omega (arith, ready.planned.long, c.node-kind.ensures.a, bound.0)

pub overflow_sub-sets : goal.overflow_sub-sets
overflow_sub-sets c = some_sets (ready_at c.args.self.now c.requires.0) c.requires.1 (sym c.node-kind.ensures.kind ∙ c.in-1.is)

pub overflow_sub-sets-in-1 : goal.overflow_sub-sets-in-1
overflow_sub-sets-in-1 c =
    let ready = ready_at c.args.self.now c.requires.0 in
    omega (arith, (known ready).sets, level_at ready c.requires.1 (sym c.node-kind.ensures.kind ∙ c.in-1.is) c.node-kind.ensures.a c.frame_at-outside.ensures)

pub put_variable-requires : goal.put_variable-requires
put_variable-requires c =
    let ready = ready_at c.args.self.now c.requires.0 in
    (entry_here ready c.requires.1, sets_room ready c.requires.1)

pub put_empty-requires : goal.put_empty-requires
put_empty-requires c = entry_here (ready_at c.args.self.now c.requires.0) c.requires.1

pub put_whole-requires : goal.put_whole-requires
put_whole-requires c =
    let ready = ready_at c.args.self.now c.requires.0 in
    (entry_here ready c.requires.1, sets_room ready c.requires.1)

pub put_union-requires : goal.put_union-requires
put_union-requires c =
    let ready = ready_at c.args.self.now c.requires.0 in
    let children = union_children ready c.requires.1 (sym c.node-kind.ensures.kind ∙ c.in-4.is) in
    (entry_here ready c.requires.1, rw c.node-kind.ensures.a children.0.entry, rw c.node-kind.ensures.b children.1.entry)

pub put_intersection-requires : goal.put_intersection-requires
put_intersection-requires c =
    let ready = ready_at c.args.self.now c.requires.0 in
    let children = inter_children ready c.requires.1 (sym c.node-kind.ensures.kind ∙ c.in-5.is) in
    (entry_here ready c.requires.1, rw c.node-kind.ensures.a children.0.entry, rw c.node-kind.ensures.b children.1.entry)

pub put_complement-requires : goal.put_complement-requires
put_complement-requires c =
    let ready = ready_at c.args.self.now c.requires.0 in
    let child = compl_child ready c.requires.1 (last_set ready c.requires.1 c.node-kind.ensures.kind c.requires.2 (search rules)) in
    (entry_here ready c.requires.1, rw c.node-kind.ensures.a child.entry, sets_room ready c.requires.1)

pub returns-in-1 : goal.returns-in-1
returns-in-1 c =
    let ready = ready_at c.args.self.now c.requires.0 in
    let kind = sym c.node-kind.ensures.kind ∙ c.in-1.is in
    let level = level_at ready c.requires.1 kind c.node-kind.ensures.a c.frame_at-outside.ensures in
    set_variable ready c.requires.1 _ kind (omega (arith, (known ready).sets, level)) c.put_variable.ensures

pub returns-in-2 : goal.returns-in-2
returns-in-2 c = set_empty (ready_at c.args.self.now c.requires.0) c.requires.1 (sym c.node-kind.ensures.kind ∙ c.in-2.is) c.put_empty.ensures

pub returns-in-3 : goal.returns-in-3
returns-in-3 c = set_whole (ready_at c.args.self.now c.requires.0) c.requires.1 (sym c.node-kind.ensures.kind ∙ c.in-3.is) c.put_whole.ensures

pub returns-in-4 : goal.returns-in-4
returns-in-4 c =
    set_union (ready_at c.args.self.now c.requires.0) c.requires.1 (sym c.node-kind.ensures.kind ∙ c.in-4.is)
    (rw (c.node-kind.ensures.a, c.node-kind.ensures.b) at c.put_union.ensures)

pub returns-in-5 : goal.returns-in-5
returns-in-5 c =
    set_inter (ready_at c.args.self.now c.requires.0) c.requires.1 (sym c.node-kind.ensures.kind ∙ c.in-5.is)
    (rw (c.node-kind.ensures.a, c.node-kind.ensures.b) at c.put_intersection.ensures)

pub returns-in_default : goal.returns-in_default
returns-in_default c =
    let ready = ready_at c.args.self.now c.requires.0 in
    set_compl ready c.requires.1 (last_set ready c.requires.1 c.node-kind.ensures.kind c.requires.2 (search rules)) (rw c.node-kind.ensures.a at c.put_complement.ensures)
