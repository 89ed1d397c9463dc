-- What a solver asks of commands before it looks at their meaning: every name is bound where it is used, every argument is of its operator's sort,
-- and a divisor is a numeral above 0. Assumes nothing.
use Rattle.std.specs.Prelude.{◌≡◌, cond, List, [], ◌∷◌, ℕ, suc}
use Rattle.std.proofs.Math.Option.{Option, none, some as just}
use Rattle.sentence.specs.Smt.{Name, Operator, plus, subtract, times, equals, below, at_least, both, either, Expr, named, numeral, untrue, minus, opposite, modulo, two, Sentence, says, let_in, quantify, guarded, denied, Command, set_logic, declare, require, assert, check_sat, same_name}

-- Int and Bool
pub data Sort : Type 0 where
  int bool : Sort

-- the sort of each name that is bound
abbrev pub Context : Type 0
Context = Name → Option Sort

abbrev pub unbound : Context
unbound = λ x. none

abbrev pub extend : Context → Name → Sort → Context
extend g x s = λ y. cond (same_name x y) (just s) (g y)

-- the sort of both arguments of an operator
abbrev pub takes : Operator → Sort
takes plus = int
takes subtract = int
takes times = int
takes equals = int
takes below = int
takes at_least = int
takes both = bool
takes either = bool

abbrev pub gives : Operator → Sort
gives plus = int
gives subtract = int
gives times = int
gives equals = bool
gives below = bool
gives at_least = bool
gives both = bool
gives either = bool

pub data Sorted (g : Context) : Expr → Sort → Type 0 where
  of_name : {x : Name} {s : Sort} → g x ≡ just s → Sorted g (named x) s
  of_numeral : (k : ℕ) → Sorted g (numeral k) int
  of_false : Sorted g untrue bool
  of_minus : {e : Expr} → Sorted g e int → Sorted g (minus e) int
  of_not : {e : Expr} → Sorted g e bool → Sorted g (opposite e) bool
  of_mod : {e : Expr} (k : ℕ) → Sorted g e int → Sorted g (modulo e (numeral (suc k))) int
  of_two : (op : Operator) {e f : Expr} → Sorted g e (takes op) → Sorted g f (takes op) → Sorted g (two op e f) (gives op)

abbrev pub Formed : Context → Sentence → Type 0
Formed g (says e) = Sorted g e bool
Formed g (let_in x e s) = (t : Sort) × Sorted g e t × Formed (extend g x t) s
Formed g (quantify some x s) = Formed (extend g x int) s
Formed g (guarded some e s) = Sorted g e bool × Formed g s
Formed g (denied s) = Formed g s

abbrev pub WellFormed : Context → List Command → Type 0
WellFormed g [] = Unit {0}
WellFormed g (set_logic ∷ cs) = WellFormed g cs
WellFormed g (declare x ∷ cs) = WellFormed (extend g x int) cs
WellFormed g (require e ∷ cs) = Sorted g e bool × WellFormed g cs
WellFormed g (assert s ∷ cs) = Formed g s × WellFormed g cs
WellFormed g (check_sat ∷ cs) = WellFormed g cs
