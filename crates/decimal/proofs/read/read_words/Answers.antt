-- `decimal::read::read_words` meets its contract: the pieces that are left decide. Assumes nothing.
use Rattle.std.proofs.Common.{rules, sym, ◌∙◌}
use Rattle.std.proofs.lemmas.List.Sums.{prefix_len-le-length}
use borrow.Author.Rules.{sfits_of}
use mir.Syntax.{w32}
use mir.Facts.{to_z-of_z}
use Rattle.decimal.proofs.Readings.{none_filled, first_filled, left_start, left_end, left_full, left_other, left_word}
use Rattle.decimal.proofs.read.read_words.Goals as goal

pub loop-rest-init : goal.loop-rest-init
loop-rest-init c = left_start c.args.text.now c.args.out.now

pub returns-then-count-out : goal.returns-then-count-out
returns-then-count-out c =
    let front = first_filled c.loop-rest.rest.now c.in-len1-up.len_at_least (sym c.is_blank.ensures ∙ c.if-is_blank.false) in
    let r = left_full (rw front at c.loop-rest.invariant) c.if-count-out.true in
    record {
      value = r.says;
      out_after = r.holds;
    }

pub split_at-requires : goal.split_at-requires
split_at-requires c = rw c.piece_length.ensures (prefix_len-le-length _ _)

pub returns-in_err-out : goal.returns-in_err-out
returns-in_err-out c =
    let front = first_filled c.loop-rest.rest.now c.in-len1-up.len_at_least (sym c.is_blank.ensures ∙ c.if-is_blank.false) in
    let word = rw (c.split_at.ensures.front, c.piece_length.ensures) at c.read_word.ensures in
    let r = left_other (rw front at c.loop-rest.invariant) c.if-count-out.false (sym word ∙ c.in_err-out.was) in
    record {
      value = c.from_residual.ensures ∙ r.says;
      out_after = r.holds;
    }

pub loop-rest-preserved : goal.loop-rest-preserved
loop-rest-preserved c =
    let front = first_filled c.loop-rest.rest.now c.in-len1-up.len_at_least (sym c.is_blank.ensures ∙ c.if-is_blank.false) in
    let word = rw (c.split_at.ensures.front, c.piece_length.ensures) at c.read_word.ensures in
    let w = to_z-of_z {z = c.in_ok-out.field-0} (sfits_of {w = w32} (search rules)) in
    rw (w, c.split_at.ensures.back, c.piece_length.ensures)
    (left_word (rw front at c.loop-rest.invariant) c.if-count-out.false _ (sym word ∙ c.in_ok-out.was))

pub returns : goal.returns
returns c =
    let r = left_end (rw (none_filled c.loop-rest.rest.now c.in_default.len_below) at c.loop-rest.invariant) in
    record {
      value = r.says;
      out_after = r.holds;
    }
