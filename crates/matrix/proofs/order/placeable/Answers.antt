use Rattle.std.proofs.Common.{arith, rules}
use Rattle.checker.proofs.Claims.{sound}
use Rattle.matrix.proofs.Marks.{node_is, children_within}
use Rattle.matrix.proofs.order.placeable.Goals as goal

pub operands_of-requires : goal.operands_of-requires
operands_of-requires c =
    omega (arith, (sound _ _ c.requires.words_value).long)

pub all_marked-requires : goal.all_marked-requires
all_marked-requires c =
    children_within _ _ c.requires.words_value c.args.i c.requires.i_lt_nodes.0 _ (omega arith) _ c.operands_of.ensures

pub returns-then-reach-i : goal.returns-then-reach-i
returns-then-reach-i c =
    let ready = rw (c.operands_of.ensures, ← node_is _ _ c.requires.words_value c.args.i c.requires.i_lt_nodes.0) at c.all_marked.ensures in
    (λ t. record { wanted = search rules; new = search rules; settled = search rules; ready = ready.0 t }, λ p. ready.1 p.ready)
