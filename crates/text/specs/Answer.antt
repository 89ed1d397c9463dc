-- What the programs print for their texts, byte for byte (01, refusal 0 and "Small claims with known outcomes"): the emitted table, an outcome,
-- or a refusal, each line ending in LF. Assumes nothing.
use Rattle.std.specs.Prelude.{◌≡◌, cond, List, [], ◌∷◌, ◌++◌, map, ℕ, leb, ℤ, length, drop, Option, Some, None, Result, Ok, Err}
use Rattle.checker.specs.declared.refusals.Refusal.TheVariants as refused
use Rattle.checker.specs.Refusals.{number_of, place_of}
use Rattle.decimal.specs.Reading.{Reading, stopped, read_text, number_in}
use Rattle.decimal.specs.Printing.{bytes, line_feed, decimal, line_text}
use Rattle.checker.specs.declared.refusals.Refusal.{Refusal}
use Rattle.checker.specs.Claim.{Node, Claim}
use Rattle.checker.specs.Words.{claim_of, node_words, quantifier_word, trailer}
use Rattle.emission.specs.Emission.{emission}
use Rattle.reducer.specs.Reduced.{reduced_of}
use Rattle.decider.specs.declared.Decision.{Decision}
use Rattle.decider.specs.declared.Decision.TheVariants as decision
use Rattle.decider.specs.Decision.{decision_of}

-- ---- limits

-- of an input text
abbrev pub max_bytes : ℕ
max_bytes = 65535

abbrev pub max_numbers : ℕ
max_numbers = 4096

-- the words that the program lends the reducer
abbrev pub lent_words : ℕ
lent_words = 16384

-- of the decider's arguments
abbrev pub largest_size : ℕ
largest_size = 4294967295

abbrev pub largest_allowance : ℕ
largest_allowance = 18446744073709551615

-- ---- lines

-- bytes, and then a number
abbrev pub mark : List ℕ → ℕ → List ℕ
mark s n = s ++ decimal n

-- the word refused, the number and the place, with one space between
unfoldable pub refused_text : ℕ → ℕ → List ℕ
refused_text number place = mark (bytes "refused ") number ++ (mark (bytes " ") place ++ (line_feed ∷ []))

abbrev pub refusal_text : Refusal → List ℕ
refusal_text r = refused_text (number_of r) (place_of r)

-- refusal 0: no words are read
unfoldable pub unread : List ℕ
unread = refusal_text refused.Unread

-- an outcome's word and its steps
unfoldable pub steps_text : List ℕ → ℕ → List ℕ
steps_text s n = mark s n ++ (line_feed ∷ [])

unfoldable pub decision_text : Result Decision Refusal → List ℕ
decision_text (Ok (decision.True n)) = steps_text (bytes "true ") n
decision_text (Ok (decision.False n)) = steps_text (bytes "false ") n
decision_text (Ok (decision.Spent n)) = steps_text (bytes "spent ") n
decision_text (Err r) = refusal_text r

unfoldable pub nodes_text : List Node → List ℕ
nodes_text [] = []
nodes_text (n ∷ ns) = line_text (node_words n) ++ nodes_text ns

-- one node a line, the quantifiers on one line (none, if there are none), the trailer
unfoldable pub table_text : Claim → List ℕ
table_text c = nodes_text c.nodes ++ (line_text (map quantifier_word c.quantifiers) ++ line_text (trailer c))

unfoldable pub reduced_text : Claim → Result ℕ Refusal → List ℕ
reduced_text c (Ok n) = table_text (emission c)
reduced_text c (Err r) = refusal_text r

-- ---- answers

-- the words of an input text; one that is too long is not read
unfoldable pub input_words : List ℕ → Reading
input_words text = cond (leb (length text) max_bytes) (read_text max_numbers text) stopped

-- the answer to the words of a text, if it says words
unfoldable pub answered : (List ℤ → List ℕ) → Reading → List ℕ
answered answer r = cond r.all (answer r.words) unread

unfoldable pub reduce_words : List ℤ → List ℕ
reduce_words ws = reduced_text (claim_of ws) (reduced_of ws lent_words)

-- What `reduce` prints for an input text.
unfoldable pub reduce_text : List ℕ → List ℕ
reduce_text input = answered reduce_words (input_words input)

unfoldable pub decide_words : ℕ → ℕ → List ℤ → List ℕ
decide_words size allowance ws = decision_text (decision_of ws size allowance)

unfoldable pub decide_numbers : Option ℕ → Option ℕ → Reading → List ℕ
decide_numbers (Some size) (Some allowance) r = answered (decide_words size allowance) r
decide_numbers (Some size) None r = unread
decide_numbers None allowance r = unread

-- What `decide` prints for its two arguments and an input text.
unfoldable pub decide_text : List ℕ → List ℕ → List ℕ → List ℕ
decide_text size allowance input = decide_numbers (number_in largest_size size) (number_in largest_allowance allowance) (input_words input)

-- From l to l' a text was put at the front, and nothing else was changed; n is the text's length.
pub record Printed (l text l' : List ℕ) (n : ℕ) : Type 0 where
  pub bytes : l' ≡ text ++ drop (length text) l
  pub count : n ≡ length text
