-- A region without ports has one split, into two without ports; so the rule passes over it. Assumes nothing.
use mathlib.Core.Path.{◌≡◌, refl, sym, ap, ◌∙◌}
use mathlib.Core.Bool.{Bool, true, false}
use mathlib.Core.List.{List}
use Prim.Native.Nat.{ℕ, ◌+◌, ◌-◌, ◌≤◌, ◌<◌}
use native.Mathlib.Nat.{add-zero, le_refl}
use native.Mathlib.Omega.{arith}
use lib.ListN.{length, take, get_or}
use lib.Seq.{get_or-take}
use Rattle.checker.specs.Claim.{Claim}
use Rattle.decider.specs.Rule.{Ruling, joined, tries, split, rule}
use Rattle.decider.specs.Plan.{plan_of}
use Rattle.decider.specs.Standing.{Passed}
use Rattle.decider.proofs.Heap.{next, rule_more, still, shorter, total_more}

-- A run of one try is that try.
one_try : (some : Bool) (f : ℕ → Ruling) (k : ℕ) → tries some f 1 k ≡ f k
unfolding tries joined
one_try some f k = go some (f k).truth refl
  where
    go : (b t : Bool) → (f k).truth ≡ t → tries b f 1 k ≡ f k
    go true true e = rw e
    go true false e = rw (e, add-zero (f k).steps)
    go false true e = rw (e, add-zero (f k).steps)
    go false false e = rw e

empty_rule : (c : Claim) (regions h : ℕ) (l : List ℕ) → 0 < h → h < regions → get_or l h 0 ≡ 0 → rule (plan_of c) (regions - h) h (take (h + h) l) ≡ next (plan_of c) regions h l 0
empty_rule c regions h l pos lt e =
    let below : h < h + h = omega arith in
    rule_more (plan_of c) regions h l lt
    ∙ ap (λ n. tries ((plan_of c).some h) (next (plan_of c) regions h l) (n + 1 - 0) 0) (get_or-take (h + h) l h 0 below ∙ e)
    ∙ one_try ((plan_of c).some h) (next (plan_of c) regions h l) 0

pub passed_none : (regions h : ℕ) (l : List ℕ) → h ≤ regions → Passed regions h l h l
passed_none regions h l le = record { from = le_refl h; upto = le; stands = refl; total = λ n t. t; ruled = λ c. refl }

-- One region more: it is split into two without ports.
pub passed_more : (regions h : ℕ) (l : List ℕ) (r : ℕ) (m given : List ℕ) → 0 < h → r < regions → r + r ≤ length m → get_or m r 0 ≡ 0
    → take (r + 1 + (r + 1)) given ≡ split (take (r + r) m) r 0 → Passed regions h l r m → Passed regions h l (r + 1) given
passed_more regions h l r m given pos lt room e w p =
    let from = p.from in
    record {
      from = omega arith;
      upto = omega arith;
      stands = shorter (h + h) (r + r) given m l (omega arith) (still r m m given 0 refl w room given refl) p.stands;
      total = λ n t. total_more r m m given 0 refl w n (omega arith) room (omega arith) (p.total n t);
      ruled = λ c. p.ruled c ∙ empty_rule c regions r m (omega arith) lt e ∙ ap (rule (plan_of c) (regions - (r + 1)) (r + 1)) (sym w);
    }
