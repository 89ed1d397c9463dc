-- `exports::put_row` meets its contract: as many numbers as both have. Assumes nothing.
use Rattle.std.proofs.Common.{length}
use Rattle.std.proofs.Math.Nat.{min_comm}
use Rattle.std.proofs.lemmas.List.{take_min, drop_min}
use Rattle.exports.specs.Rows.{with_row}
use Rattle.exports.proofs.put_row.Goals as goal

pub returns : goal.returns
unfolding with_row
returns c =
    let a = c.args in
    rw (c.copy_from_slice.ensures.after, c.min-n.ensures, drop_min, min_comm (length a.values.now) (length a.row.now), take_min)
