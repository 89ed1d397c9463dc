-- The text of a claim in the parts that the writer puts, and its length. Assumes nothing.
use mathlib.Core.Path.{◌≡◌, ap, ◌∙◌}
use mathlib.Core.List.{List, ◌++◌, append_assoc}
use Prim.Native.Nat.{ℕ, ◌+◌}
use Prim.Native.Char.{code}
use native.Mathlib.Omega.{arith}
use lib.ListN.{length, length-append, length-replicate}
use Rattle.checker.specs.Claim.{Claim}
use Rattle.decimal.specs.Printing.{decimal}
use Rattle.sentence.specs.Bytes.{bytes}
use Rattle.sentence.specs.Text.{text_of}
use Rattle.sentence.specs.Lines.{opening, ending, node_lines, quantifier_lines, brackets, closing, lines_of}
use Rattle.sentence.proofs.Lines.{text_lines}
use Rattle.solver.specs.Laid.{root_line}

module _ (c : Claim) where
  abbrev closed : List ℕ
  closed = closing (length c.nodes + brackets c.quantifiers + 2)

  pub text_parts : text_of c ≡ opening ++ (quantifier_lines 0 c.quantifiers ++ (node_lines 0 c.nodes ++ (root_line c.root ++ (closed ++ ending))))
  unfolding lines_of
  text_parts = text_lines c ∙ rw (append_assoc (decimal c.root) (bytes "\n") (closed ++ ending))

  pub text_length : length (text_of c)
      ≡ 75 + (length (quantifier_lines 0 c.quantifiers) + length (node_lines 0 c.nodes)) + length (root_line c.root) + (length c.nodes + brackets c.quantifiers + 2) + 13
  text_length =
      let qs = quantifier_lines 0 c.quantifiers in
      let ns = node_lines 0 c.nodes in
      let root = root_line c.root in
      let k = length c.nodes + brackets c.quantifiers + 2 in
      let whole = ap length text_parts in
      let a = length-append opening (qs ++ (ns ++ (root ++ (closed ++ ending)))) in
      let b = length-append qs (ns ++ (root ++ (closed ++ ending))) in
      let d = length-append ns (root ++ (closed ++ ending)) in
      let e = length-append root (closed ++ ending) in
      let f = length-append closed ending in
      omega (arith, whole, a, b, d, e, f, length-replicate k (code ")"))
