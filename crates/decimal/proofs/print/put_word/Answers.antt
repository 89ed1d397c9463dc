-- `decimal::print::put_word` meets its contract: a sign or none, and then the digits. Assumes nothing.
use Rattle.std.proofs.Common.{◌≡◌, nat_abs, ◌∙◌, arith}
use mir.Facts.{to_z-of_z}
use Rattle.lent.proofs.Writing.{wrote_then}
use Rattle.decimal.proofs.Lines.{negative_text, positive_text, word_digits}
use Rattle.decimal.proofs.print.put_word.Goals as goal
use Rattle.decimal.proofs.print.put_word.Goals.{then-w-lt0, else-w-lt0}

pub put_decimal-requires : goal.put_decimal-requires
put_decimal-requires c =
    let n : c.from.result ≡ nat_abs c.args.w = c.from.ensures ∙ rw (to_z-of_z c.ranges.w) at c.unsigned_abs.ensures.value in
    let few = word_digits c.args.w c.ranges.w in
    record {
      fits = rw n (elim c.if-w-lt0.branch [ then-w-lt0 w ↦ omega (arith, c.requires, w.put-digits.ensures.after) | else-w-lt0 w ↦ omega (arith, c.requires) ]);
    }

pub returns : goal.returns
returns c =
    let f = c.ranges.w in
    let n : c.from.result ≡ nat_abs c.args.w = c.from.ensures ∙ rw (to_z-of_z f) at c.unsigned_abs.ensures.value in
    let few = word_digits c.args.w f in
    let put = rw n at c.put_decimal.ensures in
    elim c.if-w-lt0.branch [
      | then-w-lt0 w ↦ record {
        wrote = rw (negative_text c.args.w (rw (to_z-of_z f) at w.if-w-lt0.true)) (wrote_then w.put-digits.ensures (rw (w.out-is, w.digits-is) at put));
        upper_bound = omega (arith, put.after, w.put-digits.ensures.after);
      }
      | else-w-lt0 w ↦ record {
        wrote = rw (positive_text c.args.w (rw (to_z-of_z f) at w.if-w-lt0.false)) (rw (w.out-is, w.digits-is) at put);
        upper_bound = omega (arith, put.after);
      }
    ]
