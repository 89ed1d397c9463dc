use Rattle.std.proofs.Common.{zero-le, refl, arith}
use Rattle.checker.proofs.Claims.{sound}
use Rattle.region.proofs.Pattern.{roomy_same}
use Rattle.matrix.proofs.patterns.prepare.Goals as goal

pub loop-i-init : goal.loop-i-init
loop-i-init c = record {
  filled = record { long = zero-le; room = rw (sound _ _ c.requires.words_value).sets at c.requires.roomy.room; entry = λ w i h. absurd (omega arith) };
  beyond = record { long = refl; kept = λ i h r. refl };
}

pub put_entry-requires : goal.put_entry-requires
put_entry-requires c = record {
  accepted = c.requires.words_value;
  node = omega arith;
  roomy = roomy_same (omega arith) c.requires.roomy;
  filled = c.loop-i.invariant.filled;
}
