-- `text::lines::put_mark` meets its contract. Assumes nothing.
use native.Mathlib.Omega.{arith}
use Rattle.lent.proofs.Writing.{wrote_then, wrote_long}
use Rattle.decimal.proofs.Decimals.{decimal_short}
use Rattle.text.proofs.lines.put_mark.Goals as goal

pub put_decimal-requires : goal.put_decimal-requires
put_decimal-requires c =
    let put = c.put_all-number.ensures in
    let n = c.args.n in
    record { fits = omega (arith, c.requires, put.after, wrote_long put, decimal_short n (omega arith)) }

pub returns : goal.returns
returns c =
    let n = c.args.n in
    let put = c.put_decimal.ensures in
    record {
      wrote = wrote_then c.put_all-number.ensures put;
      upper_bound = omega (arith, put.after, c.put_all-number.ensures.after, decimal_short n (omega arith));
    }
