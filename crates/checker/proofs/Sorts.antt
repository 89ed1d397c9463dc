-- Laws of the ranges of kinds. Assumes nothing.
use mathlib.Core.Path.{◌≡◌}
use mathlib.Core.Bool.{true, false}
use Prim.Native.Nat.{ℕ, ◌≤◌, ◌<◌}
use native.Mathlib.Omega.{arith}
use Rattle.std.proofs.lemmas.Bool.Decides.{nat_tests}
use Rattle.checker.specs.Kinds.{within}

pub inside : (lo hi k : ℕ) → lo ≤ k → k ≤ hi → within lo hi k ≡ true
inside lo hi k p q = grind (arith, nat_tests)

pub above : (lo hi k : ℕ) → hi < k → within lo hi k ≡ false
above lo hi k p = grind (arith, nat_tests)
