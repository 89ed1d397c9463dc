-- `region::end` meets its contract: the last word that is not 0, without its leading zeros, ends there. Assumes nothing.
use mathlib.Core.Path.{◌≡◌}
use Prim.Native.Nat.{ℕ, ◌≤◌, ◌<◌}
use Rattle.region.specs.Pattern.{words_in, word_in}
use Rattle.region.proofs.read.end.Given as goal

abbrev pub invariant-loop-j : goal.invariant-loop-j
invariant-loop-j l = (m : ℕ) → l.j ≤ m → m < words_in l.patterns → word_in l.patterns l.i m ≡ 0
