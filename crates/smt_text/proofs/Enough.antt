-- The lent bytes suffice for the text of every emission that the lent words suffice for, if its free words fit 32 bits: a line has at most 64 bytes,
-- and a node or a quantifier closes at most two brackets. Assumes nothing.
use mathlib.Core.Path.{◌≡◌}
use mathlib.Core.List.{List, [], ◌∷◌, ◌++◌}
use Prim.Native.Nat.{ℕ, suc, ◌+◌, ◌*◌, ◌≤◌, ◌<◌, ◌^◌}
use native.Mathlib.Nat.{lt_of_le_of_lt}
use native.Mathlib.Omega.{arith}
use lib.Dec.{lit<}
use lib.IntN.{pos}
use lib.ListN.{length, length-append}
use Rattle.checker.specs.declared.Dialect.TheVariants.{Emitted}
use Rattle.checker.specs.Dialect.{most_nodes, most_quantifiers}
use Rattle.checker.specs.Claim.{Node, Quantifier, Claim, set_var, empty, whole, union, inter, compl, num_var, const, maxc, sum, diff, multiple, card, equal, less, divided, set_equal, subset, conj, disj, neg, unknown, int_q, set_q, count_q}
use Rattle.checker.specs.Kinds.{number, node_of}
use Rattle.checker.specs.Words.{words_of}
use Rattle.checker.specs.Sorts.{Fits, AllFit, WellSorted}
use Rattle.checker.proofs.Words.{words-length}
use Rattle.sentence.specs.Text.{text_of}
use Rattle.sentence.specs.Lines.{node_line, node_lines, quantifier_line, quantifier_lines, brackets}
use Rattle.solver.specs.Laid.{root_line}
use Rattle.solver.proofs.Short.{line_short, quantifier_short, root_short}
use Rattle.solver.proofs.Whole.{text_length}
use Rattle.text.specs.Answer.{lent_words}
use Rattle.smt_text.specs.Lent.{lent_bytes}
use Rattle.smt_text.proofs.Free.{free, Small, FreeSmall, zero_small}

-- ---- quantifiers

quantifiers_short : (qs : List Quantifier) (i : ℕ) → i + length qs ≤ most_quantifiers Emitted → length (quantifier_lines i qs) ≤ 64 * length qs
unfolding quantifier_lines
quantifiers_short [] i h = omega arith
quantifiers_short (q ∷ qs) i h =
    let line : length (quantifier_line i q) ≤ 64 = quantifier_short i q (lt_of_le_of_lt {m = most_quantifiers Emitted} (omega arith) (lit< tt)) in
    rw (length-append (quantifier_line i q) (quantifier_lines (suc i) qs)) (omega (arith, line, quantifiers_short qs (suc i) (omega arith)))

brackets_few : (qs : List Quantifier) → brackets qs ≤ 2 * length qs
unfolding brackets
brackets_few [] = omega arith
brackets_few (int_q some ∷ qs) = omega (arith, brackets_few qs)
brackets_few (set_q some ∷ qs) = omega (arith, brackets_few qs)
brackets_few (count_q some ∷ qs) = omega (arith, brackets_few qs)

-- ---- nodes

module _ (qs : List Quantifier) (few : length qs ≤ most_quantifiers Emitted) where
  -- a node after those that are done
  module _ (done : List Node) (before : length done ≤ most_nodes Emitted) (i : ℕ) (h : i < 10 ^ 10) where
    child : (k : ℕ) → k < length done → Small (pos k)
    child k l = record { sfits = omega arith }

    bound : (q : ℕ) → q < length qs → Small (pos q)
    bound q l = record { sfits = omega arith }

    node_short : (n : Node) → Fits qs done n → Small (free n) → length (node_line i n) ≤ 64
    unfolding node_of number
    node_short (set_var q) f s = line_short (pos q) (pos 0) (bound q f.0) s i 1 h
    node_short empty f s = line_short (pos 0) (pos 0) s s i 2 h
    node_short whole f s = line_short (pos 0) (pos 0) s s i 3 h
    node_short (union a b) f s = line_short (pos a) (pos b) (child a f.0.0) (child b f.1.0) i 4 h
    node_short (inter a b) f s = line_short (pos a) (pos b) (child a f.0.0) (child b f.1.0) i 5 h
    node_short (compl a) f s = line_short (pos a) (pos 0) (child a f.0) s i 6 h
    node_short (num_var q) f s = line_short (pos q) (pos 0) (bound q f.0) s i 10 h
    node_short (const w) f s = line_short w (pos 0) s zero_small i 11 h
    node_short maxc f s = line_short (pos 0) (pos 0) s s i 12 h
    node_short (sum a b) f s = line_short (pos a) (pos b) (child a f.0.0) (child b f.1.0) i 13 h
    node_short (diff a b) f s = line_short (pos a) (pos b) (child a f.0.0) (child b f.1.0) i 14 h
    node_short (multiple w b) f s = line_short w (pos b) s (child b f.0) i 15 h
    node_short (card a) f s = line_short (pos a) (pos 0) (child a f.0) s i 16 h
    node_short (equal a b) f s = line_short (pos a) (pos b) (child a f.0.0) (child b f.1.0) i 20 h
    node_short (less a b) f s = line_short (pos a) (pos b) (child a f.0.0) (child b f.1.0) i 21 h
    node_short (divided w b) f s = line_short w (pos b) s (child b f.0) i 22 h
    node_short (set_equal a b) f s = line_short (pos a) (pos b) (child a f.0.0) (child b f.1.0) i 23 h
    node_short (subset a b) f s = line_short (pos a) (pos b) (child a f.0.0) (child b f.1.0) i 24 h
    node_short (conj a b) f s = line_short (pos a) (pos b) (child a f.0.0) (child b f.1.0) i 25 h
    node_short (disj a b) f s = line_short (pos a) (pos b) (child a f.0.0) (child b f.1.0) i 26 h
    node_short (neg a) f s = line_short (pos a) (pos 0) (child a f.0) s i 27 h
    node_short unknown f s = absurd f

  nodes_short : (ns done : List Node) → AllFit qs done ns → FreeSmall ns → length done + length ns ≤ most_nodes Emitted
      → length (node_lines (length done) ns) ≤ 64 * length ns
  unfolding node_lines
  nodes_short [] done f s h = omega arith
  nodes_short (n ∷ ns) done (f, fs) (s, ss) h =
      let next : length (done ++ n ∷ []) ≡ suc (length done) = omega (arith, length-append done (n ∷ [])) in
      let line = node_short done (omega arith) (length done) (lt_of_le_of_lt {m = most_nodes Emitted} (omega arith) (lit< tt)) n f s in
      let rest = rw next at (nodes_short ns (done ++ n ∷ []) fs ss (omega (arith, next))) in
      rw (length-append (node_line (length done) n) (node_lines (suc (length done)) ns)) (omega (arith, line, rest))

-- ---- the whole

module _ (c : Claim) (sorted : WellSorted c) (n : length c.nodes ≤ most_nodes Emitted) (q : length c.quantifiers ≤ most_quantifiers Emitted) (small : FreeSmall c.nodes) where
  pub enough : length (words_of c) ≤ lent_words → length (text_of c) ≤ lent_bytes
  enough h =
      let root : length (root_line c.root) ≤ 64 = root_short c.root (lt_of_le_of_lt {m = most_nodes Emitted} (omega (arith, sorted.1.0)) (lit< tt)) in
      let lines = nodes_short c.quantifiers q c.nodes [] sorted.0 small (omega arith) in
      omega (
        arith,
        text_length c,
        quantifiers_short c.quantifiers 0 (omega arith),
        lines,
        root,
        brackets_few c.quantifiers,
        words-length c,
      )
