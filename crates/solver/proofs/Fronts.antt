-- What was written from the start of a list on is its front. Assumes nothing.
use mathlib.Core.Path.{◌≡◌, sym}
use mathlib.Core.List.{List}
use Prim.Native.Nat.{ℕ, ◌≤◌}
use native.Mathlib.Omega.{arith}
use lib.ListN.{length, take}
use lib.Seq.{take_at, length-take-le}
use Rattle.lent.specs.Write.{Wrote}
use Rattle.lent.proofs.Writing.{wrote_front, wrote_long}

module _ {A : Type 0} {l l' ws : List A} {n : ℕ} (w : Wrote l 0 ws l' n) (h : length ws ≤ length l) where
  pub front_within : n ≤ length l'
  front_within = omega (arith, w.after, wrote_long w)

  pub front_length : n ≡ length (take n l')
  front_length = sym (length-take-le n l' front_within)

  pub front_is : take n l' ≡ ws
  front_is =
      let e : length ws ≡ n = omega (arith, w.after) in
      rw (wrote_front w h) (take_at ws _ n e)
