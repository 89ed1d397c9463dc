-- The text of a claim as its writer goes through it: what stands first, a line or two for each quantifier, a line for each node, the root, all
-- closing brackets, and what stands last. Assumes nothing.
use Rattle.std.specs.Prelude.{Bool, List, [], ◌∷◌, ◌++◌, ℕ, suc, ◌+◌, length, replicate}
use Prim.Native.Char.{code}
use Rattle.checker.specs.Claim.{Node, Quantifier, int_q, set_q, count_q, Claim}
use Rattle.decimal.specs.Printing.{decimal}
use Rattle.sentence.specs.Bytes.{bytes}
use Rattle.sentence.specs.Smt.{variable, result, named}
use Rattle.sentence.specs.Sentences.{expr_of, not_negative}
use Rattle.sentence.specs.Text.{let_line, quantify_line, guard_line}

abbrev pub opening : List ℕ
opening = bytes "(set-logic ALL)\n(declare-const MAXC Int)\n(assert (>= MAXC 0))\n(assert (not\n"

abbrev pub ending : List ℕ
ending = bytes "\n(check-sat)\n"

-- the line of node i
abbrev pub node_line : ℕ → Node → List ℕ
node_line i n = let_line (result i) (expr_of n)

-- the lines of the nodes from number i on
unfoldable pub node_lines : ℕ → List Node → List ℕ
node_lines i [] = []
node_lines i (n ∷ ns) = node_line i n ++ node_lines (suc i) ns

-- the second line of count quantifier i
abbrev pub count_line : Bool → ℕ → List ℕ
count_line some i = guard_line some (not_negative (named (variable i)))

-- the lines of quantifier i
unfoldable pub quantifier_line : ℕ → Quantifier → List ℕ
quantifier_line i (int_q some) = quantify_line some (variable i)
quantifier_line i (set_q some) = []
quantifier_line i (count_q some) = quantify_line some (variable i) ++ count_line some i

-- the lines of the quantifiers from number i on
unfoldable pub quantifier_lines : ℕ → List Quantifier → List ℕ
quantifier_lines i [] = []
quantifier_lines i (q ∷ qs) = quantifier_line i q ++ quantifier_lines (suc i) qs

-- how many brackets the lines of the quantifiers leave open
unfoldable pub brackets : List Quantifier → ℕ
brackets [] = 0
brackets (int_q some ∷ qs) = brackets qs + 1
brackets (set_q some ∷ qs) = brackets qs
brackets (count_q some ∷ qs) = brackets qs + 2

-- k closing brackets
abbrev pub closing : ℕ → List ℕ
closing k = replicate k (code ")")

unfoldable pub lines_of : Claim → List ℕ
lines_of c =
    opening
    ++ (quantifier_lines 0 c.quantifiers
    ++ (node_lines 0 c.nodes
    ++ (bytes "n"
    ++ (decimal c.root
    ++ (bytes "\n"
    ++ (closing (length c.nodes + brackets c.quantifiers + 2)
    ++ ending))))))
