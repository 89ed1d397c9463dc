-- `region::ports_in` meets its contract: the ports of the first words, word by word, until there are no more counts. Assumes nothing.
use mathlib.Core.Path.{◌≡◌}
use Prim.Native.Nat.{◌≤◌}
use Rattle.region.specs.Regions.{over}
use Rattle.region.specs.Pattern.{covers_words, words_in, word_in}
use Rattle.region.proofs.read.ports_in.Given as goal

abbrev pub invariant-loop-j : goal.invariant-loop-j
invariant-loop-j l = record {
  few : l.j ≤ words_in l.patterns;
  counted : l.ports ≡ over (covers_words l.j (word_in l.patterns l.i)) l.counts;
}
