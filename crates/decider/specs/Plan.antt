-- What the decider's rule is given by a claim (01, "The decider"). Assumes nothing.
use Rattle.std.specs.Prelude.{Bool, true, cond, ◌&&◌, List, [], ◌∷◌, ℕ, ◌+◌, ◌-◌, ◌^◌, ◌≤◌, ltb, get_or}
use Rattle.checker.specs.Claim.{Quantifier, int_q, set_q, count_q, Claim}
use Rattle.checker.specs.Sorts.{is_set_q, sets}
use Rattle.checker.specs.Meaning.{matrix}
use Rattle.region.specs.Regions.{regions}
use Rattle.matrix.specs.Final.{final_values}
use Rattle.decider.specs.Rule.{Ruling, Plan, split, rule}

-- Whether split h belongs to an exists. Each set splits the regions that stand then: the first of qs those from n up to 2 n - 1, the next
-- those from 2 n on, and so on.
unfoldable pub some_at : List Quantifier → ℕ → ℕ → Bool
some_at [] n h = true
some_at (int_q some ∷ qs) n h = some_at qs n h
some_at (set_q some ∷ qs) n h = cond (ltb h (n + n)) some (some_at qs (n + n) h)
some_at (count_q some ∷ qs) n h = some_at qs n h

-- Every inside count is tried, from 0 up to the region's own.
abbrev pub plan_of : Claim → Plan
plan_of c =
    record {
      matrix = λ cs. matrix (regions cs) c (final_values c.quantifiers);
      some = some_at c.quantifiers 1;
      from = λ h l. 0;
      end = λ h l. get_or l h 0 + 1;
    }

-- From one region of N ports: every region but the final ones is split.
unfoldable pub ruling : ℕ → Claim → Ruling
ruling N c = rule (plan_of c) (2 ^ sets c.quantifiers - 1) 1 (0 ∷ N ∷ [])

-- The claims that the rule is for: no quantifier ranges over numbers.
unfoldable pub only_sets : List Quantifier → Bool
only_sets [] = true
only_sets (q ∷ qs) = is_set_q q && only_sets qs

-- The counts that stand when split h is next, from one region of N ports on.
pub data Reached : ℕ → ℕ → List ℕ → Type 0 where
  begun : {N : ℕ} → Reached N 1 (0 ∷ N ∷ [])
  more : {N h : ℕ} {l : List ℕ} → Reached N h l → (k : ℕ) → k ≤ get_or l h 0 → Reached N (h + 1) (split l h k)
