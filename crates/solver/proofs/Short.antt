-- A line is short, since its numbers have at most ten digits each, and so is a text. Assumes nothing.
use mathlib.Core.Path.{refl}
use mathlib.Core.Bool.{true, false}
use mathlib.Core.List.{List, [], ◌∷◌, ◌++◌}
use mathlib.Core.Logic.{inr}
use Prim.Native.Nat.{ℕ, zero, suc, ◌+◌, ◌*◌, ◌<◌, ◌≤◌, ◌^◌}
use native.Mathlib.Nat.{lt_of_le_of_lt}
use native.Mathlib.Omega.{arith}
use borrow.Author.Tests.{le-ltb}
use lib.Dec.{lit<}
use lib.IntN.{ℤ, pos, negsuc, nat_abs}
use lib.ListN.{length, length-append}
use mir.Syntax.{w32}
use mir.Val.{SFits}
use Rattle.checker.specs.declared.Shape.{Shape}
use Rattle.checker.specs.Claim.{Quantifier, int_q, set_q, count_q}
use Rattle.checker.specs.Kinds.{number, sort_table, node_of}
use Rattle.checker.specs.Words.{claim_of}
use Rattle.checker.proofs.Rowwise.{◌▸◌}
use Rattle.decimal.specs.Printing.{decimal}
use Rattle.decimal.proofs.Decimals.{decimal-length, decimal_short}
use Rattle.sentence.specs.Bytes.{bytes}
use Rattle.sentence.specs.Sentences.{whole_number, expr_of}
use Rattle.sentence.specs.Text.{name_text, expr_text, quantify_line, text_of}
use Rattle.sentence.specs.Lines.{node_line, node_lines, quantifier_line, quantifier_lines, brackets}
use Rattle.solver.specs.Pieces.{one_text, two_text, pair_text, count_text, multiple_text, divided_text}
use Rattle.solver.specs.Laid.{Laid, Ten, longest_line, root_line}
use Rattle.solver.proofs.Entries.{by_entry}
use Rattle.solver.proofs.Forms.{multiple_below, multiple_from_0, divided_0, divided_below, divided_above}
use Rattle.solver.proofs.Parts.{line_parts, count_some, count_all}
use Rattle.solver.proofs.Whole.{text_length}

digits : (n : ℕ) → Ten n → length (decimal n) ≤ 10
digits n h = decimal-length 9 n h

one_short : (s : List ℕ) (n : ℕ) (t : List ℕ) → Ten n → length (one_text s n t) ≤ length s + 10 + length t
one_short s n t h = simp length-append (omega (arith, digits n h))

two_short : (s : List ℕ) (a : ℕ) (m : List ℕ) (b : ℕ) (t : List ℕ) → Ten a → Ten b
    → length (two_text s a m b t) ≤ length s + 10 + length m + 10 + length t
two_short s a m b t h k = simp length-append (omega (arith, digits a h, digits b k))

-- ---- words

number_ten : (w : ℤ) → SFits w32 w → Ten (number w)
unfolding number
number_ten (pos n) f = lt_of_le_of_lt {m = 2147483648} (omega (arith, f.sfits)) (lit< tt)
number_ten (negsuc n) f = lit< tt

magnitude_ten : (w : ℤ) → SFits w32 w → Ten (nat_abs w)
magnitude_ten (pos n) f = lt_of_le_of_lt {m = 2147483648} (omega (arith, f.sfits)) (lit< tt)
magnitude_ten (negsuc n) f = lt_of_le_of_lt {m = 2147483648} (omega (arith, f.sfits)) (lit< tt)

-- ---- expressions

constant_short : (w : ℤ) → Ten (nat_abs w) → length (expr_text (whole_number w)) ≤ 40
unfolding expr_text
constant_short (pos n) h = omega (arith, digits n h)
constant_short (negsuc n) h = omega (arith, one_short (bytes "(- ") (suc n) (bytes ")") h)

multiple_short : (w : ℤ) (b : ℕ) → Ten (nat_abs w) → Ten b → length (multiple_text w b) ≤ 40
multiple_short (pos n) b h k =
    rw (multiple_from_0 (pos n) b (le-ltb n 0 (omega arith))) (omega (arith, two_short (bytes "(* ") n (bytes " n") b (bytes ")") h k))
multiple_short (negsuc n) b h k =
    rw (multiple_below (negsuc n) b refl) (omega (arith, two_short (bytes "(* (- ") (suc n) (bytes ") n") b (bytes ")") h k))

divided_short : (w : ℤ) (b : ℕ) → Ten (nat_abs w) → Ten b → length (divided_text w b) ≤ 40
divided_short (pos zero) b h k = rw (divided_0 (pos zero) b refl) (omega (arith, one_short (bytes "(and false (= n") b (bytes " 0))") k))
divided_short (pos (suc n)) b h k =
    rw (divided_above (pos (suc n)) b (λ e. omega arith) (le-ltb (suc n) 0 (omega arith)))
    (omega (arith, two_short (bytes "(= (mod n") b (bytes " ") (suc n) (bytes ") 0)") k h))
divided_short (negsuc n) b h k =
    rw (divided_below (negsuc n) b refl) (omega (arith, two_short (bytes "(= 0 (mod n") b (bytes " ") (suc n) (bytes "))") k h))

module _ (a b : ℤ) (f : SFits w32 a) (g : SFits w32 b) where
  pair : (s : List ℕ) → length s ≤ 6 → length (pair_text s (number a) (number b)) ≤ 40
  pair s h = omega (arith, two_short s (number a) (bytes " n") (number b) (bytes ")") (number_ten a f) (number_ten b g))

  -- a node's expression, whatever its kind
  expression_short : (kind : ℕ) → length (expr_text (expr_of (node_of (pos kind) a b))) ≤ 40
  unfolding node_of number expr_text name_text
  expression_short kind =
      by_entry (λ n. length (expr_text (expr_of n)) ≤ 40) kind a b sort_table
      (inr (omega arith)
      ▸ inr (omega arith)
      ▸ inr (omega arith)
      ▸ inr (omega arith)
      ▸ inr (omega arith)
      ▸ inr (omega arith)
      ▸ inr (omega (arith, digits (number a) (number_ten a f)))
      ▸ inr (constant_short a (magnitude_ten a f))
      ▸ inr (omega arith)
      ▸ inr (pair (bytes "(+ n") (omega arith))
      ▸ inr (pair (bytes "(- n") (omega arith))
      ▸ inr (multiple_short a (number b) (magnitude_ten a f) (number_ten b g))
      ▸ inr (omega arith)
      ▸ inr (pair (bytes "(= n") (omega arith))
      ▸ inr (pair (bytes "(< n") (omega arith))
      ▸ inr (divided_short a (number b) (magnitude_ten a f) (number_ten b g))
      ▸ inr (omega arith)
      ▸ inr (omega arith)
      ▸ inr (pair (bytes "(and n") (omega arith))
      ▸ inr (pair (bytes "(or n") (omega arith))
      ▸ inr (omega (arith, one_short (bytes "(not n") (number a) (bytes ")") (number_ten a f)))
      ▸ tt)
      (omega arith)

  -- ---- lines

  pub line_short : (i kind : ℕ) → Ten i → length (node_line i (node_of (pos kind) a b)) ≤ longest_line
  line_short i kind h =
      let n = node_of (pos kind) a b in
      let last = expr_text (expr_of n) ++ bytes "))\n" in
      rw (line_parts i n, length-append (one_text (bytes "(let ((n") i (bytes " ")) last, length-append (expr_text (expr_of n)) (bytes "))\n"))
      (omega (arith, one_short (bytes "(let ((n") i (bytes " ") h, expression_short kind))

count_short : (s g : List ℕ) (i : ℕ) → length s ≤ 11 → length g ≤ 10 → Ten i → length (count_text s g i) ≤ longest_line
count_short s g i l m h =
    rw (length-append (one_text s i (bytes " Int))\n")) (one_text g i (bytes " 0)\n")))
    (omega (arith, one_short s i (bytes " Int))\n") h, one_short g i (bytes " 0)\n") h))

pub quantifier_short : (i : ℕ) (q : Quantifier) → Ten i → length (quantifier_line i q) ≤ longest_line
unfolding quantifier_line quantify_line name_text
quantifier_short i (int_q true) h = omega (arith, one_short (bytes "(exists ((q") i (bytes " Int))\n") h)
quantifier_short i (int_q false) h = omega (arith, one_short (bytes "(forall ((q") i (bytes " Int))\n") h)
quantifier_short i (set_q some) h = omega arith
quantifier_short i (count_q true) h = rw (count_some i) (count_short (bytes "(exists ((q") (bytes "(and (>= q") i (omega arith) (omega arith) h)
quantifier_short i (count_q false) h = rw (count_all i) (count_short (bytes "(forall ((q") (bytes "(=> (>= q") i (omega arith) (omega arith) h)

-- ---- texts

pub root_short : (r : ℕ) → r < 2 ^ 64 → length (root_line r) ≤ longest_line
root_short r h = simp length-append (omega (arith, decimal_short r h))

brackets_few : (qs : List Quantifier) → brackets qs ≤ 2 * length qs
unfolding brackets
brackets_few [] = omega arith
brackets_few (int_q some ∷ qs) = omega (arith, brackets_few qs)
brackets_few (set_q some ∷ qs) = omega (arith, brackets_few qs)
brackets_few (count_q some ∷ qs) = omega (arith, brackets_few qs)

pub text_short : (ws : List ℤ) {s : Shape} → Laid ws s → s.root < 2 ^ 64
    → length (node_lines 0 (claim_of ws).nodes) ≤ longest_line * s.nodes
    → length (quantifier_lines 0 (claim_of ws).quantifiers) ≤ longest_line * s.quantifiers
    → length (text_of (claim_of ws)) < 2 ^ 64
text_short ws {s} laid r ns qs =
    let c = claim_of ws in
    let root = rw laid.root at (root_short s.root r) in
    omega (arith, text_length c, brackets_few c.quantifiers, laid.nodes, laid.quantifiers, laid.few_nodes, laid.few_quantifiers)
