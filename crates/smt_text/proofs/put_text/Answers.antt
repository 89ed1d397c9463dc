-- `smt_text::put_text` meets its contract. Assumes nothing.
use mathlib.Core.Path.{◌≡◌}
use lib.ListN.{length}
use Rattle.smt_text.specs.Lent.{lent_bytes}
use Rattle.smt_text.proofs.Writing.{bytes_printed, refusal_printed}
use borrow.Author.Rules.{rules}
use Rattle.smt_text.proofs.put_text.Goals as goal

pub returns-in-Ok : goal.returns-in-Ok
returns-in-Ok c =
    let made = c.write_text.ensures in
    let room : length c.args.out.now ≡ lent_bytes = search rules in
    bytes_printed _ _ _ c.requires room made.value made.out_after _ c.in-Ok.is

pub returns-in-Err : goal.returns-in-Err
returns-in-Err c =
    let made = c.write_text.ensures in
    let room : length c.args.out.now ≡ lent_bytes = search rules in
    refusal_printed _ _ _ c.requires room made.value made.out_after _ c.in-Err.is (rw (c.number.ensures, c.place.ensures) at c.put_refusal.ensures)
