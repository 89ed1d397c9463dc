-- `reader::table::put_nodes` meets its contract: what is left of the text decides. Assumes nothing.
use Rattle.std.proofs.Common.{refl, sym, ◌∙◌, arith, rules}
use Rattle.std.proofs.lemmas.Int.{to_z-of_z}
use mir.Syntax.{w64}
use mir.Val.{SFits}
use Rattle.checker.specs.Words.{nodes_words, node_words}
use Rattle.reader.specs.Runs.{limits}
use Rattle.reader.proofs.Lefts.{left_step, left_over, left_full, nodes_run, node_put, no_nodes}
use Rattle.reader.proofs.table.put_nodes.Goals as goal

pub loop-i-preserved : goal.loop-i-preserved
unfolding node_words
loop-i-preserved c =
    let node = c.node-node.result.value in
    let kind : SFits w64 node.kind = search rules in
    let a : SFits w64 node.a = search rules in
    let b : SFits w64 node.b = search rules in
    let begins = sym c.byte_is.ensures ∙ c.if-not-byte_is.false in
    let put = simp to_z-of_z at c.put_held.ensures in
    left_step nodes_words 3 nodes_run limits.nodes c.loop-i.invariant c.loop-i-test.true begins
    (λ xs. node_put _ xs ∙ rw c.node-node.ensures.value) refl (omega arith) put c.node-node.ensures.rest

pub returns-then-not-byte_is-clause-put : goal.returns-then-not-byte_is-clause-put
returns-then-not-byte_is-clause-put c =
    left_over nodes_words 3 nodes_run limits.nodes c.loop-i.invariant no_nodes _ refl refl (sym c.byte_is.ensures ∙ c.if-not-byte_is.true)

pub returns-clause-put : goal.returns-clause-put
returns-clause-put c =
    left_full nodes_words 3 nodes_run limits.nodes c.loop-i.invariant no_nodes _ (omega arith) refl c.loop-i-test.false
