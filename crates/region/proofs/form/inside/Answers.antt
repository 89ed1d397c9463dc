-- `region::inside` meets its contract: the table holds for each of six positions the number whose bit b is that bit of b; at a higher position a word is
-- all ones or 0. Assumes nothing.
use mathlib.Core.Path.{sym, ◌∙◌, ap}
use Prim.Native.Nat.{ℕ, ◌+◌, ◌*◌}
use native.Mathlib.Omega.{arith}
use borrow.Author.Tests.{lt-ltb, eq-eqb, ne_eqb}
use Rattle.checker.proofs.Tab.{tab_at}
use Rattle.region.specs.Pattern.{covers, word_bits}
use Rattle.region.proofs.Bits.{covers_of_zero, covers_high, covers_ones, covers_in_word, covers_of_word, mask, covers_mask}
use Rattle.region.proofs.form.inside.Goals as goal
use Rattle.region.proofs.form.inside.Goals.{else-position-lt-PLACES-via-then-position-lt-PLACES+else-j-position-eq1, else-position-lt-PLACES-via-else-position-lt-PLACES}

pub returns-in-Some : goal.returns-in-Some
unfolding covers mask
returns-in-Some c b h =
    let found = c.in-Some.ensures.lookup.3 in
    let k = c.args.position in
    ap (λ (p : ℕ). covers p b) (found.1 0 ∙ tab_at 6 (λ k. mask word_bits (λ r. covers r k)) 0 k found.0)
    ∙ covers_mask word_bits (λ r. covers r k) b ∙ rw (lt-ltb b word_bits h) (sym (covers_in_word k c.args.j b found.0))

pub returns-then-j-position-eq1 : goal.returns-then-j-position-eq1
unfolding covers
returns-then-j-position-eq1 c b h =
    covers_ones word_bits b ∙ lt-ltb b word_bits h
    ∙ sym (covers_of_word c.args.position c.args.j b c.in_default.ensures.lookup.3 h ∙ eq-eqb _ 1 c.if-j-position-eq1.true)

pub returns : goal.returns
unfolding covers
returns c b h =
    covers_of_zero b ∙ sym (elim c.else-position-lt-PLACES.branch [
      | else-position-lt-PLACES-via-then-position-lt-PLACES+else-j-position-eq1 w ↦
          covers_of_word c.args.position c.args.j b c.in_default.ensures.lookup.3 h ∙ ne_eqb _ 1 w.if-j-position-eq1.false
      | else-position-lt-PLACES-via-else-position-lt-PLACES w ↦
          covers_high 8 (word_bits * c.args.j + b) c.args.position (omega (arith, c.requires)) w.if-position-lt-PLACES.false
    ])
