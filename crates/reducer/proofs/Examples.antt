-- Emissions worked out by the definition itself: the table that 01 prints, and small claims for the slips that it names.
-- Assumes nothing.
use mathlib.Core.Path.{◌≡◌, refl}
use mathlib.Core.List.{List, [], ◌∷◌, map}
use Prim.Native.Nat.{ℕ}
use lib.IntN.{pos}
use Rattle.checker.specs.Kinds.{number, node_of, quantifier_of}
use Rattle.checker.specs.Words.{word_at, claim_of, node_words, nodes_words, words_of}
use Rattle.region.specs.Regions.{covered}
use Rattle.emission.specs.Emission.{start, with_number, with_set, inside_all, becomes, emit_quantifiers, sum_run, card_run, empty_run, both_run, run_of, pattern_of, emit_node, emit_nodes, five, further_fives, constraint, split_run, join_some, join_all, close, body, emission}

pub record Example : Type 0 where
  pub claim : List ℕ
  pub table : List ℕ

abbrev example : List ℕ → List ℕ → Example
example c t = record { claim = c; table = t }

abbrev pub examples : List Example
examples =
    -- exists y, |y| = 1: the table of 01
    example (1 ∷ 0 ∷ 0 ∷ 16 ∷ 0 ∷ 0 ∷ 11 ∷ 1 ∷ 0 ∷ 20 ∷ 1 ∷ 2 ∷ 3 ∷ 3 ∷ 4 ∷ 1 ∷ 2005 ∷ [])
    (10 ∷ 1 ∷ 0 ∷ 11 ∷ 1 ∷ 0 ∷ 20 ∷ 0 ∷ 1 ∷ 12 ∷ 0 ∷ 0 ∷ 10 ∷ 0 ∷ 0 ∷ 10 ∷ 1 ∷ 0 ∷ 13 ∷ 4 ∷ 5 ∷ 20 ∷ 3 ∷ 6 ∷ 25 ∷ 7 ∷ 2 ∷ 5 ∷ 5 ∷ 8 ∷ 9 ∷ 2 ∷ 2005 ∷ [])
    -- without quantifiers, whole subset of empty: the only region is MAXC
    ∷ example (3 ∷ 0 ∷ 0 ∷ 2 ∷ 0 ∷ 0 ∷ 24 ∷ 0 ∷ 1 ∷ 2 ∷ 3 ∷ 0 ∷ 2005 ∷ []) (12 ∷ 0 ∷ 0 ∷ 11 ∷ 0 ∷ 0 ∷ 20 ∷ 0 ∷ 1 ∷ 2 ∷ 3 ∷ 0 ∷ 2005 ∷ [])
    -- |empty| = 0: a sum of no regions is a constant
    ∷ example (2 ∷ 0 ∷ 0 ∷ 16 ∷ 0 ∷ 0 ∷ 11 ∷ 0 ∷ 0 ∷ 20 ∷ 1 ∷ 2 ∷ 3 ∷ 4 ∷ 0 ∷ 2005 ∷ []) (11 ∷ 0 ∷ 0 ∷ 11 ∷ 0 ∷ 0 ∷ 20 ∷ 0 ∷ 1 ∷ 2 ∷ 3 ∷ 0 ∷ 2005 ∷ [])
    -- for all x, MAXC = MAXC: a set that no node names is split, and the constraint of a for-all is negated
    ∷ example (12 ∷ 0 ∷ 0 ∷ 20 ∷ 0 ∷ 0 ∷ 4 ∷ 1 ∷ 2 ∷ 1 ∷ 2005 ∷ [])
    (12 ∷ 0 ∷ 0 ∷ 20 ∷ 0 ∷ 0 ∷ 12 ∷ 0 ∷ 0 ∷ 10 ∷ 0 ∷ 0 ∷ 10 ∷ 1 ∷ 0 ∷ 13 ∷ 3 ∷ 4 ∷ 20 ∷ 2 ∷ 5 ∷ 27 ∷ 6 ∷ 0 ∷ 26 ∷ 7 ∷ 1 ∷ 6 ∷ 6 ∷ 8 ∷ 9 ∷ 2 ∷ 2005 ∷ [])
    -- exists x exists y, x = y: x minus y is region 2 and y minus x region 1, and the inner set's constraint comes first
    ∷ example (1 ∷ 0 ∷ 0 ∷ 1 ∷ 1 ∷ 0 ∷ 23 ∷ 0 ∷ 1 ∷ 3 ∷ 3 ∷ 2 ∷ 3 ∷ 2 ∷ 2005 ∷ [])
    (10 ∷ 4 ∷ 0 ∷ 11 ∷ 0 ∷ 0 ∷ 20 ∷ 0 ∷ 1 ∷ 10 ∷ 3 ∷ 0 ∷ 11 ∷ 0 ∷ 0 ∷ 20 ∷ 3 ∷ 4 ∷ 25 ∷ 2 ∷ 5
    ∷ 10 ∷ 0 ∷ 0 ∷ 10 ∷ 2 ∷ 0 ∷ 10 ∷ 3 ∷ 0 ∷ 13 ∷ 8 ∷ 9 ∷ 20 ∷ 7 ∷ 10 ∷ 10 ∷ 1 ∷ 0 ∷ 10 ∷ 4 ∷ 0 ∷ 10 ∷ 5 ∷ 0 ∷ 13 ∷ 13 ∷ 14 ∷ 20 ∷ 12 ∷ 15 ∷ 25 ∷ 11 ∷ 16
    ∷ 25 ∷ 17 ∷ 6 ∷ 12 ∷ 0 ∷ 0 ∷ 10 ∷ 0 ∷ 0 ∷ 10 ∷ 1 ∷ 0 ∷ 13 ∷ 20 ∷ 21 ∷ 20 ∷ 19 ∷ 22 ∷ 25 ∷ 23 ∷ 18
    ∷ 5 ∷ 5 ∷ 5 ∷ 5 ∷ 5 ∷ 5 ∷ 24 ∷ 25 ∷ 6 ∷ 2005 ∷ [])
    ∷ []

abbrev AllRight : List Example → Type 0
AllRight [] = Unit {0}
AllRight (e ∷ es) = (words_of (emission (claim_of (map pos e.claim))) ≡ map pos e.table) × AllRight es

pub examples_right : AllRight examples
unfolding number node_of quantifier_of word_at claim_of node_words nodes_words words_of covered start with_number with_set inside_all becomes emit_quantifiers sum_run card_run empty_run both_run run_of pattern_of emit_node emit_nodes five further_fives constraint split_run join_some join_all close body emission
examples_right = (refl, (refl, (refl, (refl, (refl, tt)))))
