-- The text of a claim is its lines. Assumes nothing.
use mathlib.Core.Path.{◌≡◌, refl, sym, ap, ◌∙◌}
use mathlib.Core.List.{List, [], ◌∷◌, ◌++◌, append_assoc, append-nil}
use Prim.Native.Nat.{ℕ, suc, ◌+◌}
use Prim.Native.Char.{code}
use native.Mathlib.Omega.{arith}
use lib.ListN.{length, replicate-append-replicate}
use Rattle.checker.specs.Claim.{Node, Quantifier, int_q, set_q, count_q, Claim}
use Rattle.decimal.specs.Printing.{decimal_of, decimal}
use Rattle.sentence.specs.Bytes.{bytes}
use Rattle.sentence.specs.Smt.{variable, Sentence, says}
use Rattle.sentence.specs.Sentences.{node, lets, closed, sentence_of, asserted, commands}
use Rattle.sentence.specs.Text.{name_text, expr_text, quantify_line, sentence_text, command_text, commands_text, text_of}
use Rattle.sentence.specs.Lines.{opening, ending, node_line, node_lines, count_line, quantifier_line, quantifier_lines, brackets, closing, lines_of}

-- ---- brackets

closing_more : (j k : ℕ) (n : ℕ) → j + k ≡ n → closing j ++ closing k ≡ closing n
closing_more j k n e = replicate-append-replicate j k (code ")") ∙ ap closing e

-- a line in front, and k brackets more behind
lines_around : (a b s : List ℕ) (j k n : ℕ) → j + k ≡ n → a ++ ((b ++ (s ++ closing j)) ++ closing k) ≡ (a ++ b) ++ (s ++ closing n)
lines_around a b s j k n e =
    rw (append_assoc b (s ++ closing j) (closing k), append_assoc s (closing j) (closing k), closing_more j k n e) (sym (append_assoc a b (s ++ closing n)))

-- ---- the lines of a sentence

lets_lines : (i : ℕ) (ns : List Node) (s : Sentence) → sentence_text (lets i ns s) ≡ node_lines i ns ++ (sentence_text s ++ closing (length ns))
unfolding lets sentence_text node_lines
lets_lines i [] s = sym (append-nil (sentence_text s))
lets_lines i (n ∷ ns) s =
    rw (lets_lines (suc i) ns s) (lines_around (node_line i n) (node_lines (suc i) ns) (sentence_text s) (length ns) 1 (suc (length ns)) (omega arith))

closed_lines : (i : ℕ) (qs : List Quantifier) (s : Sentence) → sentence_text (closed i qs s) ≡ quantifier_lines i qs ++ (sentence_text s ++ closing (brackets qs))
unfolding closed sentence_text quantifier_lines quantifier_line brackets
closed_lines i [] s = sym (append-nil (sentence_text s))
closed_lines i (int_q some ∷ qs) s =
    rw (closed_lines (suc i) qs s) (lines_around (quantify_line some (variable i)) (quantifier_lines (suc i) qs) (sentence_text s) (brackets qs) 1 (brackets qs + 1) refl)
closed_lines i (set_q some ∷ qs) s = closed_lines (suc i) qs s
closed_lines i (count_q some ∷ qs) s =
    let a = quantify_line some (variable i) in
    let b = count_line some i in
    let more = quantifier_lines (suc i) qs in
    let k = brackets qs in
    rw (closed_lines (suc i) qs s, lines_around b more (sentence_text s) k 1 (k + 1) refl, lines_around a (b ++ more) (sentence_text s) (k + 1) 1 (k + 2) (omega arith), append_assoc a b more)

-- ---- the whole text

-- the root on a line of its own
root_line : ℕ → List ℕ
root_line r = bytes "n" ++ (decimal r ++ bytes "\n")

root_line_lem : (r : ℕ) → sentence_text (says (node r)) ≡ root_line r
unfolding sentence_text expr_text name_text root_line
root_line_lem r = refl

sentence_lines : (c : Claim)
    → sentence_text (sentence_of c) ≡ quantifier_lines 0 c.quantifiers ++ (node_lines 0 c.nodes ++ (root_line c.root ++ closing (length c.nodes + brackets c.quantifiers)))
unfolding sentence_of
sentence_lines c =
    let ns = c.nodes in
    let r = says (node c.root) in
    let k = brackets c.quantifiers in
    let lines = node_lines 0 ns in
    let root = root_line c.root in
    rw (closed_lines 0 c.quantifiers (lets 0 ns r), lets_lines 0 ns r, root_line_lem c.root, append_assoc lines (root ++ closing (length ns)) (closing k), append_assoc root (closing (length ns)) (closing k), closing_more (length ns) k (length ns + k) refl)

text_around : (c : Claim) → text_of c ≡ opening ++ (sentence_text (sentence_of c) ++ (closing 2 ++ ending))
unfolding text_of commands_text command_text commands asserted sentence_text expr_text name_text decimal decimal_of
text_around c =
    let s = sentence_text (sentence_of c) in
    ap (λ l. opening ++ l)
    (append_assoc (s ++ bytes ")") (bytes ")\n") (bytes "(check-sat)\n") ∙ append_assoc s (bytes ")") (bytes ")\n(check-sat)\n"))

root_ends : (r n k : ℕ) → (root_line r ++ closing n) ++ (closing k ++ ending) ≡ bytes "n" ++ (decimal r ++ (bytes "\n" ++ (closing (n + k) ++ ending)))
unfolding root_line
root_ends r n k =
    ap (λ l. bytes "n" ++ l)
    (rw (append_assoc (decimal r) (bytes "\n") (closing n), append_assoc (decimal r) (bytes "\n" ++ closing n) (closing k ++ ending), ← append_assoc (closing n) (closing k) ending, closing_more n k (n + k) refl))

pub text_lines : (c : Claim) → text_of c ≡ lines_of c
unfolding lines_of
text_lines c =
    let qs = quantifier_lines 0 c.quantifiers in
    let ns = node_lines 0 c.nodes in
    let k = length c.nodes + brackets c.quantifiers in
    let root = root_line c.root ++ closing k in
    let last = closing 2 ++ ending in
    text_around c
    ∙ ap (λ l. opening ++ l)
    (rw (sentence_lines c, append_assoc qs (ns ++ root) last, append_assoc ns root last, root_ends c.root k 2))
