-- `lent::put_repeated` meets its contract. Assumes nothing.
use Rattle.std.proofs.Common.{◌≡◌, sym, ◌∙◌, arith, length, length-take, length-drop}
use Rattle.std.proofs.lemmas.List.{length-replicate, take_all}
use Rattle.lent.proofs.Writing.{wrote_part}
use Rattle.lent.proofs.put_repeated.Goals as goal

pub returns : goal.returns
returns g c =
    let a = c.args in
    let items = c.loop-place.place-items in
    let size = length-replicate a.times a.x in
    let long : length items ≡ a.times = simp (length-take, length-drop) at (c.loop-place.auto.place-items) ∙ omega (arith, c.requires.fits) in
    let all : c.loop-place.place-index ≡ a.times = omega (arith, c.loop-place-test.false) in
    wrote_part c.requires (omega arith) (sym (take_all _ items (omega arith)) ∙ rw all at c.loop-place.invariant)
