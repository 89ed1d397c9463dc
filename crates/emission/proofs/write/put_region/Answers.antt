use Prim.Native.Nat.{◌+◌}
use Rattle.checker.specs.Claim.{maxc, num_var}
use Rattle.emission.proofs.Writing.{as_node}
use Rattle.emission.proofs.Frames.{no_counts, some_counts}
use Rattle.emission.proofs.write.put_region.Goals as goal

-- src/write.rt:48:9
pub returns-then-frame-eq0 : goal.returns-then-frame-eq0
returns-then-frame-eq0 c =
    let a = c.args in
    rw (no_counts a.frame.level a.frame.first a.r c.if-frame-eq0.true)
    (as_node maxc c.put_node.ensures)

-- src/write.rt:43:1
pub returns : goal.returns
returns c =
    let a = c.args in
    rw (some_counts a.frame.level a.frame.first a.r c.if-frame-eq0.false)
    (as_node (num_var (a.frame.first + a.r)) c.put_node-2.ensures)
