-- `reader::table::put_words` meets its contract. Assumes nothing.
use Rattle.std.proofs.Common.{arith, rules}
use Rattle.std.proofs.lemmas.Int.{to_z-of_z, to_z_pos}
use mir.Syntax.{w64}
use mir.Val.{SFits}
use Rattle.reader.proofs.Scans.{put_front}
use Rattle.reader.proofs.table.put_words.Goals as goal

pub returns-clause-words_after : goal.returns-clause-words_after
returns-clause-words_after c =
    let root : SFits w64 c.number-root.result.value = search rules in
    let nodes = to_z_pos w64 c.put_nodes-nodes.result.value (omega arith) in
    let quantifiers = to_z_pos w64 c.put_quantifiers-quantifiers.result.value (omega arith) in
    let put = rw (to_z-of_z w64 c.number-root.result.value, nodes, quantifiers) at c.put_held.ensures in
    put_front c.args.text.now c.past-start.ensures c.put_quantifiers-before.ensures.put c.put_nodes-nodes.ensures.put
    c.put_quantifiers-quantifiers.ensures.put c.past.ensures c.number-root.ensures put c.requires (omega arith)
