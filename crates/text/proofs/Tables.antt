-- A table's words as lines: of the nodes one by one, and of a claim's words as a whole.
-- Assumes nothing.
use mathlib.Core.Path.{◌≡◌, refl, ap}
use mathlib.Core.List.{List, [], ◌∷◌, ◌++◌, map}
use Prim.Native.Nat.{ℕ, zero, suc, ◌+◌, ◌*◌, ◌-◌, ◌<◌, ◌≤◌}
use native.Mathlib.Omega.{arith}
use Rattle.std.proofs.lemmas.List.{take-take, drop-take}
use lib.IntN.{ℤ}
use lib.ListN.{length, take, drop, length-take, length-drop, length-map}
use lib.Seq.{drop-drop, take_at, drop_at}
use Rattle.lent.proofs.Writing.{wrote_long}
use Rattle.decimal.specs.Printing.{line_text}
use Rattle.checker.specs.Claim.{Node, Claim}
use Rattle.checker.specs.Words.{node_words, nodes_words, quantifier_word, trailer, words_of, claim_of, nodes_in}
use Rattle.checker.proofs.Words.{nodes_words-length, words-length}
use Rattle.checker.proofs.Claims.{node_count_lem}
use Rattle.text.specs.Answer.{nodes_text, table_text}
use Rattle.text.specs.Lines.{node_lines}

-- a part of a list is as long as it says
pub part_length : (ws : List ℤ) (a b : ℕ) → b ≤ length ws → length (take (b - a) (drop a ws)) ≡ b - a
part_length ws a b h = rw (length-take, length-drop) (omega arith)

-- the lines of n nodes are those of their words alone
pub lines_taken : (n : ℕ) (ws : List ℤ) → node_lines n (take (3 * n) ws) ≡ node_lines n ws
unfolding node_lines
lines_taken zero ws = refl
lines_taken (suc n) ws =
    let e : 3 * suc n ≡ 3 + 3 * n = omega arith in
    rw (e, take-take 3 (3 + 3 * n) ws (omega arith), drop-take, lines_taken n (drop 3 ws))

pub lines_none : (n : ℕ) (ws : List ℤ) → n ≡ 0 → node_lines n ws ≡ []
unfolding node_lines
lines_none zero ws h = refl
lines_none (suc n) ws h = absurd (omega arith)

-- the first of n nodes, and the others
pub lines_step : (n : ℕ) (us vs : List ℤ) {ws : List ℤ} → ws ≡ us ++ vs → length us ≡ 3 → 0 < n → node_lines n ws ≡ line_text us ++ node_lines (n - 1) vs
unfolding node_lines
lines_step zero us vs e h some = absurd (omega arith)
lines_step (suc n) us vs e h some =
    let less : suc n - 1 ≡ n = omega arith in
    rw (e, take_at us vs 3 h, drop_at us vs 3 h, less)

-- three words a node
lines_nodes : (ns : List Node) (ws : List ℤ) → node_lines (length ns) (nodes_words ns ++ ws) ≡ nodes_text ns
unfolding node_lines nodes_words node_words nodes_text
lines_nodes [] ws = refl
lines_nodes (n ∷ ns) ws = ap (λ t. line_text (node_words n) ++ t) (lines_nodes ns ws)

-- The words of a claim, by their places.
module _ (c : Claim) where
  abbrev node_count : ℕ
  node_count = length c.nodes

  abbrev trailer_at : ℕ
  trailer_at = length (words_of c) - 4

  quantifier_words : List ℤ
  quantifier_words = map quantifier_word c.quantifiers

  nodes_end : length (nodes_words c.nodes) ≡ 3 * node_count
  nodes_end = nodes_words-length c.nodes

  after_nodes : drop (3 * node_count) (words_of c) ≡ quantifier_words ++ trailer c
  unfolding words_of quantifier_words
  after_nodes = drop_at (nodes_words c.nodes) _ (3 * node_count) nodes_end

  middle : length quantifier_words ≡ trailer_at - 3 * node_count
  unfolding quantifier_words
  middle = omega (arith, words-length c, length-map c.quantifiers quantifier_word)

  the_quantifiers : take (trailer_at - 3 * node_count) (drop (3 * node_count) (words_of c)) ≡ quantifier_words
  the_quantifiers = rw after_nodes (take_at quantifier_words (trailer c) _ middle)

  the_trailer : drop trailer_at (words_of c) ≡ trailer c
  the_trailer =
      let e : trailer_at ≡ 3 * node_count + (trailer_at - 3 * node_count) = omega (arith, words-length c) in
      rw (e, ← drop-drop (trailer_at - 3 * node_count) (3 * node_count) (words_of c), after_nodes) (drop_at quantifier_words (trailer c) _ middle)

  the_nodes : node_lines node_count (words_of c) ≡ nodes_text c.nodes
  unfolding words_of
  the_nodes = lines_nodes c.nodes _

  table_lines : node_lines node_count (words_of c)
      ++ (line_text (take (trailer_at - 3 * node_count) (drop (3 * node_count) (words_of c))) ++ line_text (drop trailer_at (words_of c)))
      ≡ table_text c
  unfolding table_text quantifier_words
  table_lines = rw (the_nodes, the_quantifiers, the_trailer)

-- The same from the words themselves.
module _ (ws : List ℤ) (is : words_of (claim_of ws) ≡ ws) where
  table_nodes : length (claim_of ws).nodes ≡ nodes_in ws
  table_nodes = node_count_lem ws

  pub table_long : 3 * nodes_in ws + 4 ≤ length ws
  table_long = omega (arith, words-length (claim_of ws), table_nodes, ap length is)

  pub table_whole : node_lines (nodes_in ws) ws
      ++ (line_text (take (length ws - 4 - 3 * nodes_in ws) (drop (3 * nodes_in ws) ws)) ++ line_text (drop (length ws - 4) ws))
      ≡ table_text (claim_of ws)
  table_whole = rw (is, table_nodes) at (table_lines (claim_of ws))

pub ruleset tables = (part_length, table_long, wrote_long)
