-- The lines of a node and of a quantifier, as the writer puts them together. Assumes nothing.
use mathlib.Core.Path.{◌≡◌, refl}
use mathlib.Core.Bool.{true, false}
use mathlib.Core.List.{List, ◌++◌, append_assoc}
use Prim.Native.Nat.{ℕ, zero, suc}
use lib.IntN.{pos}
use Rattle.checker.specs.Claim.{Node, int_q}
use Rattle.checker.specs.Kinds.{number, quantifier_of}
use Rattle.decimal.specs.Printing.{decimal}
use Rattle.sentence.specs.Bytes.{bytes}
use Rattle.sentence.specs.Sentences.{expr_of}
use Rattle.sentence.specs.Text.{name_text, expr_text, let_line, quantify_line, guard_line}
use Rattle.sentence.specs.Lines.{node_line, count_line, quantifier_line}
use Rattle.sentence.proofs.Expressions.{zero_text}
use Rattle.solver.specs.Pieces.{one_text, count_text}

pub line_parts : (i : ℕ) (n : Node) → node_line i n ≡ one_text (bytes "(let ((n") i (bytes " ") ++ (expr_text (expr_of n) ++ bytes "))\n")
unfolding let_line name_text
line_parts i n = rw (append_assoc (decimal i) (bytes " ") (expr_text (expr_of n) ++ bytes "))\n"))

-- ---- quantifiers

-- "at least 0", under an exists and under a for-all
pub count_some : (i : ℕ) → count_line true i ≡ one_text (bytes "(and (>= q") i (bytes " 0)\n")
unfolding guard_line expr_text name_text
count_some i = rw (zero_text, append_assoc (decimal i) (bytes " 0)") (bytes "\n"))

pub count_all : (i : ℕ) → count_line false i ≡ one_text (bytes "(=> (>= q") i (bytes " 0)\n")
unfolding guard_line expr_text name_text
count_all i = rw (zero_text, append_assoc (decimal i) (bytes " 0)") (bytes "\n"))

-- k is none of 2 to 6
abbrev pub OtherQuantifier : ℕ → Type 0
OtherQuantifier k = ((((Unit {0} × (k ≡ 2 → ⊥)) × (k ≡ 3 → ⊥)) × (k ≡ 4 → ⊥)) × (k ≡ 5 → ⊥)) × (k ≡ 6 → ⊥)

other_exists : (k : ℕ) → OtherQuantifier k → quantifier_of (pos k) ≡ int_q true
unfolding quantifier_of number
other_exists zero h = refl
other_exists (suc zero) h = refl
other_exists (suc (suc zero)) h = absurd (h.0.0.0.0.1 refl)
other_exists (suc (suc (suc zero))) h = absurd (h.0.0.0.1 refl)
other_exists (suc (suc (suc (suc zero)))) h = absurd (h.0.0.1 refl)
other_exists (suc (suc (suc (suc (suc zero))))) h = absurd (h.0.1 refl)
other_exists (suc (suc (suc (suc (suc (suc zero)))))) h = absurd (h.1 refl)
other_exists (suc (suc (suc (suc (suc (suc (suc k))))))) h = refl

module _ (i k : ℕ) where
  abbrev line : List ℕ
  line = quantifier_line i (quantifier_of (pos k))

  pub some_count_line : k ≡ 5 → line ≡ count_text (bytes "(exists ((q") (bytes "(and (>= q") i
  unfolding quantifier_of number quantifier_line quantify_line name_text
  some_count_line e = rw (e, count_some i)

  pub all_counts_line : k ≡ 6 → line ≡ count_text (bytes "(forall ((q") (bytes "(=> (>= q") i
  unfolding quantifier_of number quantifier_line quantify_line name_text
  all_counts_line e = rw (e, count_all i)

  pub other_line : OtherQuantifier k → line ≡ one_text (bytes "(exists ((q") i (bytes " Int))\n")
  unfolding quantifier_line quantify_line name_text
  other_line h = rw (other_exists k h)
