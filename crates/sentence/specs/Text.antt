-- The text of commands, byte for byte. A sentence that holds another opens it by a line of its own; all brackets close behind the innermost.
-- Assumes nothing.
use Rattle.std.specs.Prelude.{Bool, cond, List, [], ◌∷◌, ◌++◌, ℕ}
use Rattle.checker.specs.Claim.{Claim}
use Rattle.decimal.specs.Printing.{decimal}
use Rattle.sentence.specs.Bytes.{bytes}
use Rattle.sentence.specs.Smt.{Name, the_size, variable, result, Operator, plus, subtract, times, equals, below, at_least, both, either, Expr, named, numeral, untrue, minus, opposite, modulo, two, Sentence, says, let_in, quantify, guarded, denied, Command, set_logic, declare, require, assert, check_sat}
use Rattle.sentence.specs.Sentences.{commands}

unfoldable pub name_text : Name → List ℕ
name_text the_size = bytes "MAXC"
name_text (variable i) = bytes "q" ++ decimal i
name_text (result i) = bytes "n" ++ decimal i

-- an operator, its bracket and the space after it
abbrev pub operator_text : Operator → List ℕ
operator_text plus = bytes "(+ "
operator_text subtract = bytes "(- "
operator_text times = bytes "(* "
operator_text equals = bytes "(= "
operator_text below = bytes "(< "
operator_text at_least = bytes "(>= "
operator_text both = bytes "(and "
operator_text either = bytes "(or "

abbrev pub arguments_text : List ℕ → List ℕ → List ℕ
arguments_text e f = e ++ (bytes " " ++ (f ++ bytes ")"))

unfoldable pub expr_text : Expr → List ℕ
expr_text (named x) = name_text x
expr_text (numeral k) = decimal k
expr_text untrue = bytes "false"
expr_text (minus e) = bytes "(- " ++ (expr_text e ++ bytes ")")
expr_text (opposite e) = bytes "(not " ++ (expr_text e ++ bytes ")")
expr_text (modulo e f) = bytes "(mod " ++ arguments_text (expr_text e) (expr_text f)
expr_text (two op e f) = operator_text op ++ arguments_text (expr_text e) (expr_text f)

-- ---- lines

unfoldable pub let_line : Name → Expr → List ℕ
let_line x e = bytes "(let ((" ++ (name_text x ++ (bytes " " ++ (expr_text e ++ bytes "))\n")))

unfoldable pub quantify_line : Bool → Name → List ℕ
quantify_line some x = cond some (bytes "(exists ((") (bytes "(forall ((") ++ (name_text x ++ bytes " Int))\n")

unfoldable pub guard_line : Bool → Expr → List ℕ
guard_line some e = cond some (bytes "(and ") (bytes "(=> ") ++ (expr_text e ++ bytes "\n")

-- what a line opens stands on the next lines, and then comes the closing bracket
abbrev pub opened : List ℕ → List ℕ → List ℕ
opened line inside = line ++ (inside ++ bytes ")")

unfoldable pub sentence_text : Sentence → List ℕ
sentence_text (says e) = expr_text e ++ bytes "\n"
sentence_text (let_in x e s) = opened (let_line x e) (sentence_text s)
sentence_text (quantify some x s) = opened (quantify_line some x) (sentence_text s)
sentence_text (guarded some e s) = opened (guard_line some e) (sentence_text s)
sentence_text (denied s) = opened (bytes "(not\n") (sentence_text s)

unfoldable pub command_text : Command → List ℕ
command_text set_logic = bytes "(set-logic ALL)\n"
command_text (declare x) = bytes "(declare-const " ++ (name_text x ++ bytes " Int)\n")
command_text (require e) = bytes "(assert " ++ (expr_text e ++ bytes ")\n")
command_text (assert s) = bytes "(assert " ++ (sentence_text s ++ bytes ")\n")
command_text check_sat = bytes "(check-sat)\n"

unfoldable pub commands_text : List Command → List ℕ
commands_text [] = []
commands_text (c ∷ cs) = command_text c ++ commands_text cs

-- The text of a claim without sets.
unfoldable pub text_of : Claim → List ℕ
text_of c = commands_text (commands c)
