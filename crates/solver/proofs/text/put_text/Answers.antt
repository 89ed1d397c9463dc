-- `solver::text::put_text` meets its contract: one part after the other. Assumes nothing.
use Rattle.checker.specs.Words.{claim_of}
use Rattle.std.proofs.Common.{arith}
use Rattle.solver.proofs.Short.{text_short}
use Rattle.solver.proofs.Whole.{text_parts}
use Rattle.solver.proofs.text.put_text.Goals as goal

pub returns-clause-put : goal.returns-clause-put
returns-clause-put g c =
    let joined = g.met.S.Sink.joined in
    let root = rw c.requires.root at c.put_one.ensures in
    let closing = rw (c.requires.nodes, c.opened.ensures.value) at c.put_closing.ensures in
    let behind = joined _ _ _ _ _ root (joined _ _ _ _ _ closing c.put-2.ensures) in
    rw (text_parts (claim_of c.args.words.now))
    (joined _ _ _ _ _ c.put.ensures (joined _ _ _ _ _ c.put_quantifiers.ensures.put (joined _ _ _ _ _ c.put_nodes.ensures.put behind)))

pub returns-clause-short : goal.returns-clause-short
returns-clause-short g c =
    text_short c.args.words.now c.requires (omega arith) c.put_nodes.ensures.short c.put_quantifiers.ensures.short
