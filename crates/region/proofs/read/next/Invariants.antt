-- `region::next` meets its contract: the loop goes from word to word, and the regions that are left stay the same until one is found. Assumes nothing.
use mathlib.Core.Path.{◌≡◌}
use Prim.Native.Nat.{◌-◌, ◌/◌, ◌%◌, ◌^◌, ◌≤◌, ◌<◌}
use lib.ListN.{length}
use Rattle.region.specs.Pattern.{word_bits, room_in, word_in, regions_from}
use Rattle.region.proofs.read.next.Given as goal

abbrev pub invariant-loop-left : goal.invariant-loop-left
invariant-loop-left l = record {
  above : l.from ≤ l.r;
  some : 0 < length (regions_from l.patterns l.i l.r);
  same : regions_from l.patterns l.i l.r ≡ regions_from l.patterns l.i l.from;
  word : l.left ≡ word_in l.patterns l.i (l.r / word_bits) / 2 ^ (l.r % word_bits);
}

abbrev pub decreases-loop-left : goal.decreases-loop-left
decreases-loop-left l = room_in l.patterns - l.r
