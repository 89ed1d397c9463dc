use mathlib.Core.Path.{ap}
use Prim.Native.Nat.{ℕ, ◌+◌}
use native.Mathlib.Omega.{arith}
use lib.IntN.{pos}
use Rattle.checker.specs.Kinds.{quantifier_of}
use Rattle.emission.proofs.Frames.{shifted, says_set, says_number, kind_set, kind_number}
use Rattle.emission.proofs.plan.inside.Goals as goal
use Rattle.emission.proofs.plan.inside.Goals.{in_default-via-then-kind-lt3, in_default-via-else-kind-lt3+else-kind-lt5}

pub returns-in-3 : goal.returns-in-3
returns-in-3 c qs s =
    let a = c.args in
    let kind = kind_set a.kind (omega arith) (omega arith) in
    rw kind.1 (says_set s kind.0 _ (ap (λ (n : ℕ). a.frame.next + n) (shifted a.frame.level c.requires.1)))

pub returns-in_default : goal.returns-in_default
returns-in_default c qs s =
    let k = c.args.kind in
    says_number s (quantifier_of (pos k)) (kind_number k (λ l h. elim c.in_default.branch [
      | in_default-via-then-kind-lt3 w ↦ omega arith
      | in_default-via-else-kind-lt3+else-kind-lt5 w ↦ omega arith
    ]))
