-- `lent::put_all` meets its contract. Assumes nothing.
use Rattle.std.proofs.Common.{refl}
use Rattle.lent.proofs.Writing.{wrote_part}
use Rattle.lent.proofs.put_all.Goals as goal

pub returns : goal.returns
returns g c = wrote_part c.requires refl c.copy_from_slice.ensures.after
