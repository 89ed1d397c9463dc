-- `reader::table::put_held` meets its contract: the numbers so far are put. Assumes nothing.
use Rattle.std.proofs.Common.{[], ◌∷◌, pos, get_or, refl, arith, rules}
use Rattle.std.proofs.lemmas.Int.{to_z-of_z}
use Rattle.std.proofs.lemmas.List.{take_more, map-append}
use mir.Syntax.{w32, w64}
use mir.Val.{SFits}
use Rattle.lent.proofs.Writing.{wrote_then}
use Rattle.reader.proofs.table.put_held.Goals as goal

pub loop-i-preserved : goal.loop-i-preserved
loop-i-preserved c =
    let i = c.loop-i.i in
    let numbers = c.args.numbers.now in
    let word : SFits w32 c.held.result = search rules in
    let number : SFits w64 (get_or numbers i (pos 0)) = search rules in
    let held = simp to_z-of_z at c.held.ensures in
    rw (to_z-of_z w32 c.held.result, held, take_more numbers i (pos 0) c.loop-i-test.true, map-append)
    (wrote_then {vs = _ ∷ []} c.loop-i.invariant (record { words = refl; after = omega arith }))
