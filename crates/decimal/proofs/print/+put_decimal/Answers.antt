-- `decimal::print::put_decimal` meets its contract. Assumes nothing.
use Prim.Native.Nat.{◌≤◌, ◌<◌}
use native.Mathlib.Omega.{arith}
use Rattle.lent.proofs.Writing.{wrote_then, room_left, room_right}
use Rattle.decimal.proofs.Decimals.{decimal_small, decimal_step}
use Rattle.decimal.proofs.print.+put_decimal.Goals as goal

pub put-requires : goal.put-requires
put-requires t c =
    let h : c.args.n < 10 = omega arith in
    rw (c.digit.ensures, ← decimal_small c.args.n h) c.requires

pub returns-then-n-lt10 : goal.returns-then-n-lt10
returns-then-n-lt10 t c =
    let h : c.args.n < 10 = omega arith in
    rw (decimal_small c.args.n h, ← c.digit.ensures) c.put.ensures

pub put_decimal-last-requires : goal.put_decimal-last-requires
put_decimal-last-requires t c =
    let h : 10 ≤ c.args.n = omega arith in
    (omega arith, room_left _ (rw (decimal_step c.args.n h) at c.requires))

pub put-requires-2 : goal.put-requires-2
put-requires-2 t c =
    let h : 10 ≤ c.args.n = omega arith in
    room_right (rw (decimal_step c.args.n h, ← c.digit-2.ensures) at c.requires) c.put_decimal-last.ensures

pub returns : goal.returns
returns t c =
    let h : 10 ≤ c.args.n = omega arith in
    rw (decimal_step c.args.n h, ← c.digit-2.ensures) (wrote_then c.put_decimal-last.ensures c.put-2.ensures)
