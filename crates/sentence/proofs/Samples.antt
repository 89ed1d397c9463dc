-- Two texts in full: that of 01's sample claim, as the reducer emits it, and one with every kind of node and quantifier that has a sentence.
-- Assumes nothing.
use mathlib.Core.Path.{◌≡◌, refl}
use mathlib.Core.Bool.{true, false}
use mathlib.Core.List.{List, [], ◌∷◌, ◌++◌}
use Prim.Native.Nat.{ℕ}
use Prim.Native.String.{String}
use lib.IntN.{pos, negsuc}
use Rattle.checker.specs.Claim.{num_var, const, maxc, sum, diff, multiple, equal, less, divided, conj, disj, neg, int_q, count_q, Claim}
use Rattle.decimal.specs.Printing.{decimal_of, decimal}
use Rattle.sentence.specs.Bytes.{bytes}
use Rattle.sentence.specs.Sentences.{lets, closed, sentence_of, asserted, commands}
use Rattle.sentence.specs.Text.{name_text, expr_text, let_line, quantify_line, guard_line, sentence_text, command_text, commands_text, text_of}

-- lines of text, each with its line feed
abbrev lines : List String → List ℕ
lines [] = []
lines (s ∷ ss) = bytes s ++ (bytes "\n" ++ lines ss)

-- Exists y, |y| = 1.
abbrev sample : Claim
sample =
    record {
      nodes = num_var 1 ∷ const (pos 1) ∷ equal 0 1 ∷ maxc ∷ num_var 0 ∷ num_var 1 ∷ sum 4 5 ∷ equal 3 6 ∷ conj 7 2 ∷ [];
      quantifiers = count_q true ∷ count_q true ∷ [];
      root = 8;
    }

pub sample_text : text_of sample ≡ lines (
    "(set-logic ALL)"
    ∷ "(declare-const MAXC Int)"
    ∷ "(assert (>= MAXC 0))"
    ∷ "(assert (not"
    ∷ "(exists ((q0 Int))"
    ∷ "(and (>= q0 0)"
    ∷ "(exists ((q1 Int))"
    ∷ "(and (>= q1 0)"
    ∷ "(let ((n0 q1))"
    ∷ "(let ((n1 1))"
    ∷ "(let ((n2 (= n0 n1)))"
    ∷ "(let ((n3 MAXC))"
    ∷ "(let ((n4 q0))"
    ∷ "(let ((n5 q1))"
    ∷ "(let ((n6 (+ n4 n5)))"
    ∷ "(let ((n7 (= n3 n6)))"
    ∷ "(let ((n8 (and n7 n2)))"
    ∷ "n8"
    ∷ ")))))))))))))))"
    ∷ "(check-sat)"
    ∷ [])
unfolding text_of commands_text command_text commands asserted sentence_of closed lets sentence_text guard_line quantify_line let_line expr_text name_text decimal decimal_of
sample_text = refl

abbrev every : Claim
every =
    record {
      nodes =
          num_var 0
          ∷ num_var 1
          ∷ const (pos 5)
          ∷ const (negsuc 6)
          ∷ maxc
          ∷ sum 0 1
          ∷ diff 5 4
          ∷ multiple (pos 3) 6
          ∷ multiple (negsuc 2) 7
          ∷ equal 8 2
          ∷ less 3 8
          ∷ divided (pos 5) 6
          ∷ divided (negsuc 4) 6
          ∷ divided (pos 0) 6
          ∷ conj 9 10
          ∷ disj 11 12
          ∷ neg 13
          ∷ conj 14 15
          ∷ disj 17 16
          ∷ [];
      quantifiers = int_q true ∷ int_q false ∷ count_q true ∷ count_q false ∷ [];
      root = 18;
    }

pub every_text : text_of every ≡ lines (
    "(set-logic ALL)"
    ∷ "(declare-const MAXC Int)"
    ∷ "(assert (>= MAXC 0))"
    ∷ "(assert (not"
    ∷ "(exists ((q0 Int))"
    ∷ "(forall ((q1 Int))"
    ∷ "(exists ((q2 Int))"
    ∷ "(and (>= q2 0)"
    ∷ "(forall ((q3 Int))"
    ∷ "(=> (>= q3 0)"
    ∷ "(let ((n0 q0))"
    ∷ "(let ((n1 q1))"
    ∷ "(let ((n2 5))"
    ∷ "(let ((n3 (- 7)))"
    ∷ "(let ((n4 MAXC))"
    ∷ "(let ((n5 (+ n0 n1)))"
    ∷ "(let ((n6 (- n5 n4)))"
    ∷ "(let ((n7 (* 3 n6)))"
    ∷ "(let ((n8 (* (- 3) n7)))"
    ∷ "(let ((n9 (= n8 n2)))"
    ∷ "(let ((n10 (< n3 n8)))"
    ∷ "(let ((n11 (= (mod n6 5) 0)))"
    ∷ "(let ((n12 (= 0 (mod n6 5))))"
    ∷ "(let ((n13 (and false (= n6 0))))"
    ∷ "(let ((n14 (and n9 n10)))"
    ∷ "(let ((n15 (or n11 n12)))"
    ∷ "(let ((n16 (not n13)))"
    ∷ "(let ((n17 (and n14 n15)))"
    ∷ "(let ((n18 (or n17 n16)))"
    ∷ "n18"
    ∷ ")))))))))))))))))))))))))))"
    ∷ "(check-sat)"
    ∷ [])
unfolding text_of commands_text command_text commands asserted sentence_of closed lets sentence_text guard_line quantify_line let_line expr_text name_text decimal decimal_of
every_text = refl
