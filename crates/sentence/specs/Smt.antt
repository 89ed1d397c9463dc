-- The part of SMT-LIB 2.6 that claims are written in: its form, and what it means over the integers.
-- Assumes nothing.
use Rattle.std.specs.Prelude.{◌≡◌, Bool, true, false, not, cond, ◌&&◌, ◌||◌, List, [], ◌∷◌, ℕ, ◌-◌, ◌%◌, ◌<◌, eqb, ℤ, pos, negsuc, nat_abs, neg_ℤ, ◌+ℤ◌, ◌-ℤ◌, ◌*ℤ◌}
use Rattle.std.specs.Int.Signed.{lt_z}
use Rattle.checker.specs.Meaning.{Value, num, truth, as_num, as_truth, eq_z, Quantified}

-- ---- form

-- MAXC; the variables of the quantifiers, q0, q1, ..; what the lets bind for the nodes, n0, n1, ..
pub data Name : Type 0 where
  the_size : Name
  variable result : (i : ℕ) → Name

-- + - * = < >= and or
pub data Operator : Type 0 where
  plus subtract times equals below at_least both either : Operator

-- a name, a numeral, false, (- e), (not e), (mod e f), (op e f)
pub data Expr : Type 0 where
  named : (x : Name) → Expr
  numeral : (k : ℕ) → Expr
  untrue : Expr
  minus opposite : (e : Expr) → Expr
  modulo : (e f : Expr) → Expr
  two : (op : Operator) (e f : Expr) → Expr

-- An expression; (let ((x e)) s); (exists ((x Int)) s), or `forall`; (and e s), or `=>`; (not s).
-- Of two words the first is meant where `some` is true.
pub data Sentence : Type 0 where
  says : (e : Expr) → Sentence
  let_in : (x : Name) (e : Expr) (s : Sentence) → Sentence
  quantify : (some : Bool) (x : Name) (s : Sentence) → Sentence
  guarded : (some : Bool) (e : Expr) (s : Sentence) → Sentence
  denied : (s : Sentence) → Sentence

-- (set-logic ALL), (declare-const x Int), (assert e), (assert s), (check-sat)
pub data Command : Type 0 where
  set_logic : Command
  declare : (x : Name) → Command
  require : (e : Expr) → Command
  assert : (s : Sentence) → Command
  check_sat : Command

-- ---- meaning

abbrev pub same_name : Name → Name → Bool
same_name the_size the_size = true
same_name the_size (variable j) = false
same_name the_size (result j) = false
same_name (variable i) the_size = false
same_name (variable i) (variable j) = eqb i j
same_name (variable i) (result j) = false
same_name (result i) the_size = false
same_name (result i) (variable j) = false
same_name (result i) (result j) = eqb i j

-- what each name stands for
abbrev pub Env : Type 0
Env = Name → Value

abbrev pub bind : Env → Name → Value → Env
bind env x v = λ y. cond (same_name x y) v (env y)

-- SMT-LIB's `mod`, for a divisor c that is not 0: r with t = c × q + r for a whole q, and 0 ≤ r < |c|
pub record Remainder (t c r : ℤ) : Type 0 where
  pub quotient : ℤ
  pub rest : ℕ
  pub is : r ≡ pos rest
  pub small : rest < nat_abs c
  pub whole : t ≡ c *ℤ quotient +ℤ r

-- That r, worked out. SMT-LIB leaves a divisor of 0 open, and no claim's sentence has one.
unfoldable pub mod_z : ℤ → ℤ → ℤ
mod_z (pos m) c = pos (m % nat_abs c)
mod_z (negsuc m) c = pos (nat_abs c - 1 - m % nat_abs c)

abbrev pub operate : Operator → Value → Value → Value
operate plus v u = num (as_num v +ℤ as_num u)
operate subtract v u = num (as_num v -ℤ as_num u)
operate times v u = num (as_num v *ℤ as_num u)
operate equals v u = truth (eq_z (as_num v) (as_num u))
operate below v u = truth (lt_z (as_num v) (as_num u))
operate at_least v u = truth (not (lt_z (as_num v) (as_num u)))
operate both v u = truth (as_truth v && as_truth u)
operate either v u = truth (as_truth v || as_truth u)

abbrev pub eval : Env → Expr → Value
eval env (named x) = env x
eval env (numeral k) = num (pos k)
eval env untrue = truth false
eval env (minus e) = num (neg_ℤ (as_num (eval env e)))
eval env (opposite e) = truth (not (as_truth (eval env e)))
eval env (modulo e f) = num (mod_z (as_num (eval env e)) (as_num (eval env f)))
eval env (two op e f) = operate op (eval env e) (eval env f)

abbrev pub IsTrue : Env → Expr → Type 0
IsTrue env e = as_truth (eval env e) ≡ true

abbrev pub Guarded : Bool → Type 0 → Type 0 → Type 0
Guarded true A B = A × B
Guarded false A B = A → B

abbrev pub Means : Env → Sentence → Type 0
Means env (says e) = IsTrue env e
Means env (let_in x e s) = Means (bind env x (eval env e)) s
Means env (quantify some x s) = Quantified some ℤ (λ k. Means (bind env x (num k)) s)
Means env (guarded some e s) = Guarded some (IsTrue env e) (Means env s)
Means env (denied s) = Means env s → ⊥

-- What "sat" says of commands: there are integers for the declared names at which every assertion holds. "unsat" says that there are none.
abbrev pub Sat : Env → List Command → Type 0
Sat env [] = Unit {0}
Sat env (set_logic ∷ cs) = Sat env cs
Sat env (declare x ∷ cs) = (k : ℤ) × Sat (bind env x (num k)) cs
Sat env (require e ∷ cs) = IsTrue env e × Sat env cs
Sat env (assert s ∷ cs) = Means env s × Sat env cs
Sat env (check_sat ∷ cs) = Sat env cs

-- no name stands for anything
abbrev pub nothing : Env
nothing = λ x. truth false
