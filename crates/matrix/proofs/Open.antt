-- Counts of the first regions alone: what they say of all, and that the others can be filled in. Assumes nothing.
use mathlib.Core.Path.{◌≡◌, refl, ◌∙◌}
use mathlib.Core.Bool.{Bool, true, false}
use mathlib.Core.List.{List, [], ◌∷◌, ◌++◌, append-nil}
use Prim.Native.Nat.{ℕ, zero, suc, ◌+◌, ◌-◌, ◌^◌, ◌≤◌, ◌<◌}
use native.Mathlib.Nat.{add-zero}
use native.Mathlib.Omega.{arith}
use lib.ListN.{length, replicate, length-append, length-replicate}
use Rattle.checker.specs.Claim.{Claim}
use Rattle.checker.specs.Sorts.{sets}
use Rattle.checker.specs.Meaning.{Set}
use Rattle.region.specs.Regions.{part, over}
use Rattle.region.proofs.Covered.{over_none, over-append}
use Rattle.matrix.specs.Known.{Counts, Open}

-- a set that covers none of them
pub over_front : (w : Set) (front rest : List ℕ) → ((r : ℕ) → length front ≤ r → w r ≡ false) → over w (front ++ rest) ≡ over w front
over_front w front rest h =
    over-append front rest w ∙ rw (over_none rest (λ r. w (length front + r)) (λ r l. h (length front + r) (omega arith))) (add-zero _)

zeros : (n : ℕ) (w : Set) → over w (replicate n 0) ≡ 0
unfolding over
zeros zero w = refl
zeros (suc n) w = go (w 0) (zeros n (λ r. w (suc r)))
  where
    go : (b : Bool) → over (λ r. w (suc r)) (replicate n 0) ≡ 0 → part b 0 + over (λ r. w (suc r)) (replicate n 0) ≡ 0
    go true e = omega arith
    go false e = omega arith

pub open_all : (c : Claim) (N : ℕ) (cs : List ℕ) → Counts c N cs → Open c N cs
open_all c N cs t = record { rest = []; counts = rw (append-nil cs) t }

pub open_some : (c : Claim) (N : ℕ) (front : List ℕ) → length front < 2 ^ sets c.quantifiers → over (λ r. true) front ≤ N → Open c N front
unfolding over
open_some c N front l h =
    let missing : ℕ = 2 ^ sets c.quantifiers - suc (length front) in
    let rest : List ℕ = (N - over (λ r. true) front) ∷ replicate missing 0 in
    record {
      rest = rest;
      counts = record {
        regions = length-append front rest ∙ rw (length-replicate {A = ℕ} missing 0) (omega arith);
        total = over-append front rest (λ r. true) ∙ rw (zeros missing (λ r. true)) (omega arith);
      };
    }
