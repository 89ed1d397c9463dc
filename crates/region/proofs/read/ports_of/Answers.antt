-- `region::ports_of` meets its contract. The ports that are counted and those of the regions that are left make the ports of the word. Assumes nothing.
use mathlib.Core.Path.{◌≡◌}
use mathlib.Core.Bool.{false}
use mathlib.Core.List.{List}
use Prim.Native.Nat.{ℕ, ◌+◌, ◌-◌, ◌^◌, ◌≤◌, ◌<◌}
use native.Mathlib.Omega.{arith}
use lib.Bits.{bit_and, and_le_l}
use lib.Count.{count_trailing_zeros}
use lib.ListN.{length, get_or}
use Rattle.region.specs.Regions.{over}
use Rattle.region.specs.Pattern.{covers, word_bits}
use Rattle.region.proofs.Covered.{over_le}
use Rattle.region.proofs.Lowest.{over_no_bits, over_lowest, lowest_within, still_uncovered}
use Rattle.region.proofs.read.ports_of.Goals as goal

-- the lowest region that is left has a count, and the others are left after it
module _ (left : ℕ) (counts : List ℕ) (some : 0 < left) (fits : left < 2 ^ word_bits) (by_index : (r : ℕ) → length counts ≤ r → covers left r ≡ false) where
  counted : count_trailing_zeros word_bits left < length counts
  counted = lowest_within word_bits left (length counts) some fits by_index

  met : over (covers left) counts ≡ get_or counts (count_trailing_zeros word_bits left) 0 + over (covers (bit_and left (left - 1))) counts
  met = over_lowest word_bits left counts some fits counted

pub bounds-counts-left : goal.bounds-counts-left
bounds-counts-left c =
    let l = c.loop-left in
    counted l.left c.args.counts.now (omega arith) l.invariant.fits l.invariant.by_index

pub overflow_add-ports : goal.overflow_add-ports
overflow_add-ports c =
    let l = c.loop-left in
    omega (arith, met l.left c.args.counts.now (omega arith) l.invariant.fits l.invariant.by_index, over_le c.args.counts.now (covers c.args.word))

pub loop-left-preserved : goal.loop-left-preserved
loop-left-preserved c =
    let l = c.loop-left in
    record {
      fits = omega (arith, and_le_l l.left (l.left - 1));
      counted = omega (arith, met l.left c.args.counts.now (omega arith) l.invariant.fits l.invariant.by_index);
      by_index = λ r h. still_uncovered l.left (l.left - 1) r (l.invariant.by_index r h);
    }

pub returns : goal.returns
returns c =
    let none : over (covers c.loop-left.left) c.args.counts.now ≡ 0 = rw c.loop-left-test.false (over_no_bits c.args.counts.now) in
    omega (arith, none)
