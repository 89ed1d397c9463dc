-- What a ruling answers under an allowance of steps (01, "The decider"), which is spent one step at a time and handed on with what is left.
-- Assumes nothing.
use Rattle.std.specs.Prelude.{Bool, cond, ℕ, ◌+◌, ◌-◌, leb, Result, Ok, Err}
use Rattle.decider.specs.declared.allowance.Allowance.{Allowance}
use Rattle.decider.specs.declared.allowance.Found.{Found}
use Rattle.decider.specs.declared.allowance.Spent.{Spent}
use Rattle.decider.specs.Rule.{Ruling}

-- s steps later
abbrev pub later : ℕ → Allowance → Allowance
later s a = record { left = a.left - s; taken = a.taken + s }

abbrev pub ended : Bool → Allowance → Result Found Spent
ended t a = Ok (record { truth = t; rest = a })

-- all of the allowance is taken
abbrev pub spent : Allowance → Result Found Spent
spent a = Err (record { taken = a.taken + a.left })

-- A truth exactly if its steps are within what is left of the allowance.
unfoldable pub reply : Ruling → Allowance → Result Found Spent
reply r a = cond (leb r.steps a.left) (ended r.truth (later r.steps a)) (spent a)
