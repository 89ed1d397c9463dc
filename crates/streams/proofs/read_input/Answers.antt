-- `streams::read_input` meets its contract: what a turn reads stands behind what was read before. Assumes nothing.
use Rattle.std.proofs.Common.{rules, ◌≡◌, ℕ, ◌+◌, ◌-◌, ◌≤◌, List, ◌++◌, length, take, length-take-le, sym, subst, ◌∙◌}
use Rattle.std.specs.Io.KnownBytes.{Consumes}
use Rattle.std.proofs.KnownBytes.{Consumes-trans}
use Rattle.std.proofs.Math.Seq.{take-append-add}
use Rattle.std.proofs.lemmas.List.{take-append-le}
use Rattle.std.proofs.lemmas.Result.{IfOk-at_ok, MatchResult-at_ok}
use borrow.Rule.Slice.PartMut.{put_mid, post_of}
use Rattle.streams.proofs.read_input.Goals as goal

-- the front up to the written elements, and then n of them
front_written : (a k n : ℕ) (xs ys : List ℕ) → a ≤ length xs → n ≤ length ys → take a xs ++ take n ys ≡ take (a + n) (put_mid a k xs ys)
front_written a k n xs ys within fits =
    let front = take-append-add (take a xs) (ys ++ post_of a k xs) n in
    sym (rw (length-take-le a xs within, take-append-le n ys (post_of a k xs) fits) at front)

pub loop-done-preserved : goal.loop-done-preserved
loop-done-preserved g c =
    let l = c.loop-done in
    let ok = c.inspect_err.ensures.value ∙ c.in_ok-more.was in
    let fits = (IfOk-at_ok _ ok c.read.ensures.bound).0 in
    let whole = front_written l.done (length l.buf - l.done) c.in_ok-more.more l.buf c.read.new.buf l.invariant.0 fits in
    (search rules, search rules, subst (Consumes _ _) whole (Consumes-trans _ _ _ _ _ l.invariant.2 (MatchResult-at_ok _ _ _ ok c.read.ensures.bytes).0))
