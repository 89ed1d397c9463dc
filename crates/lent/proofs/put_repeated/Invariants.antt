-- `lent::put_repeated` meets its contract. Assumes nothing.
use Rattle.std.proofs.Common.{replicate, ◌≡◌, take}
use Rattle.lent.proofs.put_repeated.Given as goal

abbrev pub invariant-loop-place : goal.invariant-loop-place
invariant-loop-place g l = take l.place-index l.place-items ≡ replicate l.place-index l.x
