-- `text::lines::put_nodes` meets its contract: the lines of the nodes that are left are still to be put. Assumes nothing.
use Rattle.std.proofs.Common.{◌≡◌, ℕ, ◌+◌, ◌*◌, ◌≤◌, length}
use Rattle.std.specs.Slice.Iter.{chunks_rest, chunks_size}
use Rattle.lent.proofs.Writing.{Rest}
use Rattle.text.specs.Lines.{node_lines}
use Rattle.text.proofs.lines.put_nodes.Given as goal

abbrev pub invariant-loop-node : goal.invariant-loop-node
invariant-loop-node l =
    (n : ℕ)
    × (length (chunks_rest l.node-iterator) ≡ 3 * n)
    × (chunks_size l.node-iterator ≡ 3)
    × (l.here + 36 * n ≤ 36 * l.nodes)
    × Rest l.out l.here (node_lines n (chunks_rest l.node-iterator)) l.initial.out 0 (node_lines l.nodes l.words)
