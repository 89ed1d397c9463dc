-- What the decider answers (01, "Refusal numbers" and "The decider"): refusals 1 to 7 as the checker gives them, then 9, 10 and 11, and
-- then the rule's truth and steps if the allowance suffices. Assumes nothing.
use Rattle.std.specs.Prelude.{Bool, true, cond, not, List, [], ◌∷◌, ℕ, ◌+◌, ◌*◌, leb, ltb, ℤ, length, get_or, Result, Ok, Err}
use Rattle.checker.specs.declared.Shape.{Shape}
use Rattle.checker.specs.declared.refusals.Refusal.{Refusal}
use Rattle.checker.specs.declared.refusals.Refusal.TheVariants as refused
use Rattle.checker.specs.Claim.{int_q, Claim}
use Rattle.checker.specs.Words.{claim_of}
use Rattle.checker.specs.Sorts.{is_set_q}
use Rattle.checker.specs.Search.{first}
use Rattle.checker.specs.Check.{Test, test, verdict, check_of}
use Rattle.decider.specs.declared.allowance.Found.{Found}
use Rattle.decider.specs.declared.allowance.Spent as held
use Rattle.decider.specs.declared.Decision.{Decision}
use Rattle.decider.specs.declared.Decision.TheVariants.{True, False, Spent}
use Rattle.matrix.specs.Bound.{first_over}
use Rattle.decider.specs.Rule.{Ruling}
use Rattle.decider.specs.Plan.{ruling}

abbrev pub max_size : ℕ
max_size = 4096

-- quantifier i ranges over numbers
unfoldable pub binds_number : Claim → ℕ → Bool
binds_number c i = not (is_set_q (get_or c.quantifiers i (int_q true)))

abbrev pub first_number : Claim → ℕ
first_number c = first (binds_number c) (length c.quantifiers)

-- 9 to 11, in order
unfoldable pub decider_tests : ℕ → Claim → List Test
decider_tests N c =
    test (ltb max_size N) refused.LargeSize
    ∷ test (ltb (first_number c) (length c.quantifiers)) (refused.OverNumbers (3 * length c.nodes + first_number c))
    ∷ test (ltb (first_over N c) (length c.nodes)) (refused.LargeBound (3 * first_over N c))
    ∷ []

-- What a claim that the checker accepts comes to at size N.
unfoldable pub admission : ℕ → Claim → Result Shape Refusal → Result Shape Refusal
admission N c (Ok s) = verdict (decider_tests N c) (Ok s)
admission N c (Err r) = Err r

-- The rule's answer under an allowance: true or false with its steps if they are within it, and otherwise spent, with all of it.
unfoldable pub outcome_of : Ruling → ℕ → Decision
outcome_of r allowance = cond (leb r.steps allowance) (cond r.truth (True r.steps) (False r.steps)) (Spent allowance)

-- what a reply says, with the steps taken
abbrev pub said : Result Found held.Spent → Decision
said (Ok f) = cond f.truth (True f.rest.taken) (False f.rest.taken)
said (Err s) = Spent s.taken

unfoldable pub decided : Ruling → ℕ → Result Shape Refusal → Result Decision Refusal
decided r allowance (Ok s) = Ok (outcome_of r allowance)
decided r allowance (Err x) = Err x

unfoldable pub decision_of : List ℤ → ℕ → ℕ → Result Decision Refusal
decision_of ws N allowance = decided (ruling N (claim_of ws)) allowance (admission N (claim_of ws) (check_of ws))
