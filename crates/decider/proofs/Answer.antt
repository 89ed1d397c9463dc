-- The laws of a ruling's reply under an allowance: how the reply to one try and the later tries make the reply to a run of tries. They hold
-- for any rulings. Assumes nothing.
use mathlib.Core.Path.{◌≡◌}
use mathlib.Core.Bool.{Bool, cond, not}
use Prim.Native.Nat.{ℕ, suc, ◌+◌, ◌-◌, ◌<◌}
use native.Mathlib.Omega.{arith}
use Rattle.std.proofs.Common.{Result, Ok, Err}
use Rattle.std.proofs.lemmas.Bool.Decides.{nat_tests}
use Rattle.decider.specs.declared.allowance.Allowance.{Allowance}
use Rattle.decider.specs.declared.allowance.Found.{Found}
use Rattle.decider.specs.declared.allowance.Spent.{Spent}
use Rattle.decider.specs.Rule.{Ruling, stops, joined, tries}
use Rattle.decider.specs.Answer.{later, ended, reply}
use Rattle.decider.specs.Decision.{outcome_of, said}

same_allowance : (a b : Allowance) → a.left ≡ b.left → a.taken ≡ b.taken → a ≡ b
same_allowance a b p q i = record { left = p i; taken = q i }

-- a truth leaves as much as there was before, left and taken together
pub kept : (r : Ruling) (a : Allowance) (f : Found) → Ok f ≡ reply r a → f.rest.left + f.rest.taken ≡ a.left + a.taken
unfolding reply
kept r a f e = grind (arith, nat_tests)

-- An allowance of which nothing is left does not pay for a step.
pub nothing_left : (t : Bool) (a : Allowance) → a.left ≡ 0 → Err (record { taken = a.taken }) ≡ reply (record { truth = t; steps = 1 }) a
unfolding reply
nothing_left t a e = grind (arith, nat_tests)

-- One of which something is left does.
pub one_step : (t : Bool) (a : Allowance) → 0 < a.left → ended t (later 1 a) ≡ reply (record { truth = t; steps = 1 }) a
unfolding reply
one_step t a e = grind (arith, nat_tests)

-- ---- a run of tries

-- The reply to a run is x, the reply to its first try, or the later tries go on with what is left.
abbrev pub thereafter : Bool → Result Found Spent → Ruling → Result Found Spent
thereafter some (Ok f) rest = cond (stops some f.truth) (Ok f) (reply rest f.rest)
thereafter some (Err s) rest = Err s

turned : (some : Bool) (r rest : Ruling) (a : Allowance) → reply (joined some r rest) a ≡ thereafter some (reply r a) rest
unfolding joined reply
turned some r rest a = grind (arith, nat_tests)

pub tries_none : (some : Bool) (f : ℕ → Ruling) (k : ℕ) (a : Allowance) → ended (not some) a ≡ reply (tries some f 0 k) a
unfolding tries reply
tries_none some f k a = grind (arith, nat_tests)

pub tries_more : (some : Bool) (f : ℕ → Ruling) (end k : ℕ) (a : Allowance) → k < end
    → reply (tries some f (end - k) k) a ≡ thereafter some (reply (f k) a) (tries some f (end - (k + 1)) (k + 1))
unfolding tries
tries_more some f end k a l =
    let z : end - k ≡ suc (end - (k + 1)) = omega arith in
    rw z (turned some (f k) (tries some f (end - (k + 1)) (k + 1)) a)

-- ---- the answer at the end

-- What is said of an allowance of which nothing was taken before.
pub said_is : (r : Ruling) (n : ℕ) → said (reply r (record { left = n; taken = 0 })) ≡ outcome_of r n
unfolding reply outcome_of
said_is r n = grind (arith, nat_tests)
