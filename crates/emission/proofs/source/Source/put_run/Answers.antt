-- `Source::put_run` meets its contract: kind by kind, what the run of node i asks and that it is written. Assumes nothing.
use mathlib.Core.Path.{sym, ◌∙◌}
use native.Mathlib.Omega.{arith}
use Rattle.emission.proofs.Ready.{known, inner_says, inner_small, ready_at}
use Rattle.emission.proofs.Sets.{entry_here, spared_none, spared_next}
use Rattle.emission.proofs.Kindwise.{other_kind, run_none, run_single, card_child, run_card, equal_children, run_equal, subset_children, run_subset}
use Rattle.emission.proofs.Writing.{nodes_none}
use borrow.Author.Rules.{rules}
use Rattle.emission.proofs.source.Source.put_run.Goals as goal

pub returns-then-kind-le-COMPLEMENT-clause-wrote_nodes : goal.returns-then-kind-le-COMPLEMENT-clause-wrote_nodes
returns-then-kind-le-COMPLEMENT-clause-wrote_nodes c =
    rw (run_none (ready_at c.args.self.now c.requires.patterned.0) (omega (arith, c.node-kind.ensures.kind, c.if-kind-le-COMPLEMENT.true)))
    (nodes_none c.args.out.now c.args.at)

pub frame_at-frame-requires : goal.frame_at-frame-requires
frame_at-frame-requires c =
    let ready = ready_at c.args.self.now c.requires.patterned.0 in
    omega (arith, ready.planned.long, (known ready).quantifiers)

pub put_cardinality-requires : goal.put_cardinality-requires
put_cardinality-requires c =
    let ready = ready_at c.args.self.now c.requires.patterned.0 in
    let patterned = c.requires.patterned.1 in
    let says = inner_says ready c.frame_at-frame.ensures in
    let kind = sym c.node-kind.ensures.kind ∙ c.in-16.is in
    let a = c.node-kind.ensures.a in
    record {
      i_bound = (rw a (card_child ready patterned kind).entry, inner_small ready c.frame_at-frame.ensures);
      room = rw (a, ← run_card ready patterned says c.args.at c.requires.at_value.0 kind) c.requires.at_value.1;
    }

pub put_equality-requires : goal.put_equality-requires
put_equality-requires c =
    let ready = ready_at c.args.self.now c.requires.patterned.0 in
    let patterned = c.requires.patterned.1 in
    let says = inner_says ready c.frame_at-frame.ensures in
    let kind = sym c.node-kind.ensures.kind ∙ c.in-23.is in
    let children = equal_children ready patterned kind in
    let a = c.node-kind.ensures.a in
    let b = c.node-kind.ensures.b in
    record {
      i_bound = (entry_here ready patterned, rw a children.0.before, rw b children.1.before, inner_small ready c.frame_at-frame.ensures);
      room = rw (a, b, ← run_equal ready patterned says c.args.at c.requires.at_value.0 kind) c.requires.at_value.1;
    }

pub put_within-requires : goal.put_within-requires
put_within-requires c =
    let ready = ready_at c.args.self.now c.requires.patterned.0 in
    let patterned = c.requires.patterned.1 in
    let says = inner_says ready c.frame_at-frame.ensures in
    let kind = sym c.node-kind.ensures.kind ∙ c.in-24.is in
    let children = subset_children ready patterned kind in
    let a = c.node-kind.ensures.a in
    let b = c.node-kind.ensures.b in
    record {
      i_bound = (entry_here ready patterned, rw a children.0.entry, rw b children.1.entry, inner_small ready c.frame_at-frame.ensures);
      room = rw (a, b, ← run_subset ready patterned says c.args.at c.requires.at_value.0 kind) c.requires.at_value.1;
    }

pub put_renewed-requires-clause-single : goal.put_renewed-requires-clause-single
put_renewed-requires-clause-single c =
    let single = other_kind c.node-kind.ensures.kind c.if-kind-le-COMPLEMENT.false (search rules) in
    (single, rw (run_single (ready_at c.args.self.now c.requires.patterned.0) single) at c.requires.at_value.1)

pub returns-in-16 : goal.returns-in-16
returns-in-16 c =
    let ready = ready_at c.args.self.now c.requires.patterned.0 in
    let patterned = c.requires.patterned.1 in
    let says = inner_says ready c.frame_at-frame.ensures in
    let kind = sym c.node-kind.ensures.kind ∙ c.in-16.is in
    record {
      wrote_nodes = rw (run_card ready patterned says c.args.at c.requires.at_value.0 kind, ← c.node-kind.ensures.a) c.put_cardinality.ensures;
      patterned = spared_next ready patterned (spared_none _ _) (omega (arith, kind));
    }

pub returns-in-23 : goal.returns-in-23
returns-in-23 c =
    let ready = ready_at c.args.self.now c.requires.patterned.0 in
    let patterned = c.requires.patterned.1 in
    let says = inner_says ready c.frame_at-frame.ensures in
    let kind = sym c.node-kind.ensures.kind ∙ c.in-23.is in
    let run = run_equal ready patterned says c.args.at c.requires.at_value.0 kind in
    record {
      wrote_nodes = rw (run, ← c.node-kind.ensures.a, ← c.node-kind.ensures.b) c.put_equality.ensures.wrote_nodes;
      patterned = spared_next ready patterned c.put_equality.ensures.spared (omega (arith, kind));
    }

pub returns-in-24 : goal.returns-in-24
returns-in-24 c =
    let ready = ready_at c.args.self.now c.requires.patterned.0 in
    let patterned = c.requires.patterned.1 in
    let says = inner_says ready c.frame_at-frame.ensures in
    let kind = sym c.node-kind.ensures.kind ∙ c.in-24.is in
    let run = run_subset ready patterned says c.args.at c.requires.at_value.0 kind in
    record {
      wrote_nodes = rw (run, ← c.node-kind.ensures.a, ← c.node-kind.ensures.b) c.put_within.ensures.wrote_nodes;
      patterned = spared_next ready patterned c.put_within.ensures.spared (omega (arith, kind));
    }

pub returns-in_default-clause-patterned : goal.returns-in_default-clause-patterned
returns-in_default-clause-patterned c =
    spared_next (ready_at c.args.self.now c.requires.patterned.0) c.requires.patterned.1 (spared_none _ _)
    (omega (arith, c.node-kind.ensures.kind, c.if-kind-le-COMPLEMENT.false))
