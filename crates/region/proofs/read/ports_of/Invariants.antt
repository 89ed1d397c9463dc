-- `region::ports_of` meets its contract. The ports that are counted and those of the regions that are left make the ports of the word. Assumes nothing.
use mathlib.Core.Path.{◌≡◌}
use mathlib.Core.Bool.{false}
use Prim.Native.Nat.{ℕ, ◌+◌, ◌^◌, ◌<◌, ◌≤◌}
use lib.ListN.{length}
use Rattle.region.specs.Regions.{over}
use Rattle.region.specs.Pattern.{covers, word_bits}
use Rattle.region.proofs.read.ports_of.Given as goal

abbrev pub invariant-loop-left : goal.invariant-loop-left
invariant-loop-left l = record {
  fits : l.left < 2 ^ word_bits;
  counted : l.ports + over (covers l.left) l.counts ≡ over (covers l.word) l.counts;
  by_index : (r : ℕ) → length l.counts ≤ r → covers l.left r ≡ false;
}

abbrev pub decreases-loop-left : goal.decreases-loop-left
decreases-loop-left l = l.left
