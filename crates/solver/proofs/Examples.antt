-- What the writer answers, worked out by the definition itself: to 01's sample claim as the reducer emits it, with room and with a byte too little,
-- and to tables that it refuses. Assumes nothing.
use Rattle.std.proofs.Common.{Result, Ok, Err}
use Rattle.checker.specs.declared.refusals.Refusal.TheVariants as refused
use Rattle.checker.specs.declared.refusals.Refusal.{Refusal}
use mathlib.Core.Path.{◌≡◌, refl}
use mathlib.Core.List.{List, [], ◌∷◌, map}
use Prim.Native.Nat.{ℕ}
use lib.IntN.{ℤ, pos}
use Rattle.checker.specs.Kinds.{number, node_of, quantifier_of, row_of, sort_of, range_of}
use Rattle.checker.specs.Words.{word_at, claim_of}
use Rattle.checker.specs.Search.{first, first_from, count}
use Rattle.checker.specs.Table.{child_sort, name_range, serves, field_good, node_good, node_taken, bad_node, root_good, quantifier_taken, bad_quantifier, binds_set, one_too_many}
use Rattle.checker.specs.Check.{verdict, shape_tests, quantifier_tests, node_refusal, node_tests, shape_of, parts_of, table_at, rest_of, check_as}
use Rattle.checker.proofs.Rowwise.{◌▸◌}
use Rattle.decimal.specs.Printing.{decimal_of, decimal}
use Rattle.sentence.specs.Sentences.{lets, closed, sentence_of, asserted, commands}
use Rattle.sentence.specs.Text.{name_text, expr_text, let_line, quantify_line, guard_line, sentence_text, command_text, commands_text, text_of}
use Rattle.solver.specs.Written.{fitted, answer, written_of}

pub record Example : Type 0 where
  pub words : List ℤ
  pub room : ℕ
  pub answer : Result ℕ Refusal

abbrev example : List ℕ → ℕ → Result ℕ Refusal → Example
example ns room a = record { words = map pos ns; room = room; answer = a }

abbrev gives : Refusal → Result ℕ Refusal
gives r = Err r

abbrev emitted : List ℕ
emitted =
    10 ∷ 1 ∷ 0 ∷ 11 ∷ 1 ∷ 0 ∷ 20 ∷ 0 ∷ 1 ∷ 12 ∷ 0 ∷ 0 ∷ 10 ∷ 0 ∷ 0 ∷ 10 ∷ 1 ∷ 0 ∷ 13 ∷ 4 ∷ 5 ∷ 20 ∷ 3 ∷ 6 ∷ 25 ∷ 7 ∷ 2 ∷ 5 ∷ 5 ∷ 8 ∷ 9 ∷ 2 ∷ 2005 ∷ []

abbrev pub examples : List Example
examples =
    example emitted 340 (Ok 340)
    ∷ example emitted 339 (gives (refused.TooShort 340))
    ∷ example emitted 0 (gives (refused.TooShort 340))
    ∷ example [] 340 (gives refused.Unmarked)
    ∷ example (1 ∷ 0 ∷ 0 ∷ 16 ∷ 0 ∷ 0 ∷ 11 ∷ 1 ∷ 0 ∷ 20 ∷ 1 ∷ 2 ∷ 3 ∷ 3 ∷ 4 ∷ 1 ∷ 2005 ∷ []) 340 (gives (refused.UnknownQuantifier 12))
    ∷ example (12 ∷ 0 ∷ 0 ∷ 2 ∷ 0 ∷ 0 ∷ 0 ∷ 2 ∷ 0 ∷ 2005 ∷ []) 340 (gives (refused.BadNode 3))
    ∷ []

abbrev AllRight : List Example → Type 0
AllRight [] = Unit {0}
AllRight (e ∷ es) = (written_of e.words e.room ≡ e.answer) × AllRight es

pub examples_right : AllRight examples
unfolding written_of answer fitted text_of commands_text command_text commands asserted sentence_of closed lets sentence_text guard_line quantify_line let_line expr_text name_text decimal decimal_of claim_of node_of quantifier_of check_as verdict count first_from first word_at range_of sort_of row_of number
examples_right = refl ▸ refl ▸ refl ▸ refl ▸ refl ▸ refl ▸ tt
