-- `solver::lines::put_node` meets its contract. Assumes nothing.
use Rattle.std.proofs.Common.{◌+◌, ◌*◌, refl, rules}
use Rattle.std.proofs.lemmas.Int.{to_z-of_z}
use mir.Syntax.{w32}
use mir.Val.{SFits}
use Rattle.checker.specs.Words.{word}
use Rattle.solver.proofs.Parts.{line_parts}
use Rattle.solver.proofs.Short.{line_short}
use Rattle.solver.proofs.Steps.{node_is}
use Rattle.solver.proofs.lines.put_node.Goals as goal

pub returns : goal.returns
returns g c =
    let ws = c.args.words.now in
    let i = c.args.i in
    let a : SFits w32 (word ws (3 * i + 1)) = search rules in
    let b : SFits w32 (word ws (3 * i + 2)) = search rules in
    let put = rw (to_z-of_z w32 (word ws (3 * i + 1)), to_z-of_z w32 (word ws (3 * i + 2))) at c.put_expression.ensures in
    let joined = g.met.S.Sink.joined in
    let node = node_is ws i c.word.ensures refl refl in
    record {
      put = rw (node, line_parts i) (joined _ _ _ _ _ c.put_one.ensures (joined _ _ _ _ _ put c.put.ensures));
      short = λ ten. rw node (line_short _ _ a b i c.word.result ten);
    }
