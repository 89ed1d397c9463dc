-- The lines of a table's nodes and quantifiers one after the other, as loops go through them. Assumes nothing.
use mathlib.Core.Path.{◌≡◌, refl, sym, ap, ◌∙◌}
use mathlib.Core.Bool.{true}
use mathlib.Core.List.{List, [], ◌∷◌, ◌++◌, append_assoc, append-nil}
use Prim.Native.Nat.{ℕ, suc, ◌+◌, ◌*◌, ◌<◌}
use native.Mathlib.Nat.{zero-add, add-zero}
use native.Mathlib.Omega.{arith}
use lib.IntN.{ℤ, pos}
use lib.ListN.{length, get_or, take, length-take}
use Rattle.std.proofs.lemmas.List.{take_more}
use Rattle.checker.specs.Claim.{Node, unknown, Quantifier, int_q, set_q, count_q}
use Rattle.checker.specs.Kinds.{number, node_of, quantifier_of}
use Rattle.checker.specs.Words.{word, word_at, nodes_in, quantifiers_in, node_at, quantifier_at, claim_of}
use Rattle.checker.proofs.Tab.{tab_at, tab-length}
use Rattle.sentence.specs.Lines.{node_line, node_lines, quantifier_line, quantifier_lines, brackets}
use Rattle.solver.specs.Laid.{opened_by}

-- ---- one more line

node_lines-append : (k : ℕ) (a b : List Node) → node_lines k (a ++ b) ≡ node_lines k a ++ node_lines (k + length a) b
unfolding node_lines
node_lines-append k [] b = rw add-zero
node_lines-append k (n ∷ a) b =
    let e : suc k + length a ≡ k + suc (length a) = omega arith in
    let rest = ap (λ l. node_line k n ++ l) (node_lines-append (suc k) a b) in
    rest ∙ rw e (sym (append_assoc (node_line k n) (node_lines (suc k) a) _))

quantifier_lines-append : (k : ℕ) (a b : List Quantifier)
    → quantifier_lines k (a ++ b) ≡ quantifier_lines k a ++ quantifier_lines (k + length a) b
unfolding quantifier_lines
quantifier_lines-append k [] b = rw add-zero
quantifier_lines-append k (q ∷ a) b =
    let e : suc k + length a ≡ k + suc (length a) = omega arith in
    let rest = ap (λ l. quantifier_line k q ++ l) (quantifier_lines-append (suc k) a b) in
    rest ∙ rw e (sym (append_assoc (quantifier_line k q) (quantifier_lines (suc k) a) _))

brackets-append : (a b : List Quantifier) → brackets (a ++ b) ≡ brackets a + brackets b
unfolding brackets
brackets-append [] b = omega arith
brackets-append (int_q some ∷ a) b = omega (arith, brackets-append a b)
brackets-append (set_q some ∷ a) b = brackets-append a b
brackets-append (count_q some ∷ a) b = omega (arith, brackets-append a b)

one_bracket : (q : Quantifier) → brackets (q ∷ []) ≡ opened_by q
unfolding brackets
one_bracket (int_q some) = refl
one_bracket (set_q some) = refl
one_bracket (count_q some) = refl

length-front : {A : Type 0} (xs : List A) (i : ℕ) → i < length xs → length (take i xs) ≡ i
length-front xs i h = omega (arith, length-take i xs)

-- ---- the nodes and quantifiers of a table

module _ (ws : List ℤ) where
  abbrev ns : List Node
  ns = (claim_of ws).nodes

  abbrev qs : List Quantifier
  qs = (claim_of ws).quantifiers

  node_count_lem : length ns ≡ nodes_in ws
  unfolding claim_of
  node_count_lem = tab-length (nodes_in ws) (node_at ws)

  quantifier_count : length qs ≡ quantifiers_in ws
  unfolding claim_of
  quantifier_count = tab-length (quantifiers_in ws) (quantifier_at ws (nodes_in ws))

  node_at_lem : (i : ℕ) → i < length ns → get_or ns i unknown ≡ node_at ws i
  unfolding claim_of
  node_at_lem i h = tab_at (nodes_in ws) (node_at ws) unknown i (omega (arith, node_count_lem))

  pub nodes_more : (i : ℕ) → i < length ns → node_lines 0 (take (i + 1) ns) ≡ node_lines 0 (take i ns) ++ node_line i (node_at ws i)
  unfolding node_lines
  nodes_more i h =
      rw (take_more ns i unknown h, node_lines-append 0 (take i ns), zero-add (length (take i ns)), length-front ns i h)
      (rw (append-nil (node_line i (get_or ns i unknown)), node_at_lem i h))

  -- node i from its words
  pub node_is : (i : ℕ) {k : ℕ} {x y : ℤ} → k ≡ word_at ws (3 * i) → x ≡ word ws (3 * i + 1) → y ≡ word ws (3 * i + 2)
      → node_at ws i ≡ node_of (pos k) x y
  unfolding node_of number word_at
  node_is i e f g = rw (e, f, g)

  -- the kind of quantifier i is k, where there are n nodes
  module _ (n i : ℕ) {k : ℕ} (all : n ≡ length ns) (h : i < length qs) (is : k ≡ word_at ws (3 * n + i)) where
    quantifier_at_lem : get_or qs i (int_q true) ≡ quantifier_of (pos k)
    unfolding claim_of quantifier_of number word_at
    quantifier_at_lem =
        tab_at (quantifiers_in ws) (quantifier_at ws (nodes_in ws)) (int_q true) i (omega (arith, quantifier_count))
        ∙ rw (← node_count_lem, ← all, is)

    pub quantifiers_more : quantifier_lines 0 (take (i + 1) qs) ≡ quantifier_lines 0 (take i qs) ++ quantifier_line i (quantifier_of (pos k))
    unfolding quantifier_lines
    quantifiers_more =
        rw (take_more qs i (int_q true) h, quantifier_lines-append 0 (take i qs), zero-add (length (take i qs)), length-front qs i h)
        (rw (append-nil (quantifier_line i (get_or qs i (int_q true))), quantifier_at_lem))

    pub brackets_more : brackets (take (i + 1) qs) ≡ brackets (take i qs) + opened_by (quantifier_of (pos k))
    brackets_more =
        rw (take_more qs i (int_q true) h, brackets-append (take i qs), quantifier_at_lem, one_bracket (quantifier_of (pos k)))
