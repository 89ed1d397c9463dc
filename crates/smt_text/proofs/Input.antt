-- The words that a text says fit 32 bits, and so do the free words of the claim that they are read as. Assumes nothing.
use mathlib.Core.Path.{◌≡◌, refl}
use mathlib.Core.Bool.{Bool, true, false, cond, ◌&&◌}
use mathlib.Core.List.{List, [], ◌∷◌}
use mathlib.Core.Logic.{inr}
use Prim.Native.Nat.{ℕ, zero, suc, ◌*◌, ◌+◌}
use native.Mathlib.Omega.{arith}
use borrow.Author.Tests.{leb-true}
use lib.Dec.{leb, eqb}
use lib.IntN.{ℤ, pos, neg_ℤ}
use lib.ListN.{length}
use Rattle.checker.specs.Claim.{Node}
use Rattle.checker.specs.Kinds.{number, sort_table, node_of}
use Rattle.checker.specs.Words.{word, tab, nodes_in, node_at, claim_of}
use Rattle.checker.proofs.Rowwise.{◌▸◌}
use Rattle.decimal.specs.Reading.{minus, value, most_negative, most_positive, is_number, is_word, word_of, Reading, stopped, after, read_pieces, read_text, pieces}
use Rattle.std.proofs.lemmas.Bool.{and_parts}
use Rattle.std.proofs.lemmas.Int.{ints}
use Rattle.solver.proofs.Entries.{by_entry}
use Rattle.text.specs.Answer.{max_bytes, max_numbers, input_words}
use Rattle.smt_text.proofs.Free.{free, Small, FreeSmall, zero_small}

-- ---- from a text

abbrev pub AllSmall : List ℤ → Type 0
AllSmall [] = Unit {0}
AllSmall (w ∷ ws) = Small w × AllSmall ws

word_small : (t : List ℕ) → is_word t ≡ true → Small (word_of t)
unfolding is_word word_of
word_small [] e = zero_small
word_small (b ∷ bs) e = go (eqb b minus) e
  where
    go : (t : Bool) → cond t (is_number bs && leb (value bs) most_negative) (is_number (b ∷ bs) && leb (value (b ∷ bs)) most_positive) ≡ true
        → Small (cond t (neg_ℤ (pos (value bs))) (pos (value (b ∷ bs))))
    go true f =
        let h = leb-true (value bs) most_negative (and_parts (is_number bs) _ f).1 in
        record { sfits = omega (arith, ints) }
    go false f =
        let h = leb-true (value (b ∷ bs)) most_positive (and_parts (is_number (b ∷ bs)) _ f).1 in
        record { sfits = omega arith }

read_small : (room : ℕ) (ps : List (List ℕ)) → AllSmall (read_pieces room ps).words
unfolding read_pieces
read_small room [] = tt
read_small room ([] ∷ ps) = read_small room ps
read_small zero ((b ∷ bs) ∷ ps) = tt
read_small (suc room) ((b ∷ bs) ∷ ps) = go (is_word (b ∷ bs)) (word_small (b ∷ bs)) (read_pieces room ps) (read_small room ps)
  where
    go : (t : Bool) → (t ≡ true → Small (word_of (b ∷ bs))) → (r : Reading) → AllSmall r.words → AllSmall (cond t (after (word_of (b ∷ bs)) r) stopped).words
    go true h r k = (h refl, k)
    go false h r k = tt

pub input_small : (text : List ℕ) → AllSmall (input_words text).words
unfolding input_words read_text
input_small text = go (leb (length text) max_bytes)
  where
    go : (t : Bool) → AllSmall (cond t (read_text max_numbers text) stopped).words
    go true = read_small max_numbers (pieces text)
    go false = tt

-- ---- to a claim

word_at_lem : (ws : List ℤ) → AllSmall ws → (i : ℕ) → Small (word ws i)
word_at_lem [] h i = zero_small
word_at_lem (w ∷ ws) (h, hs) zero = h
word_at_lem (w ∷ ws) (h, hs) (suc i) = word_at_lem ws hs i

node_free : (k a b : ℤ) → Small a → Small (free (node_of k a b))
unfolding node_of
node_free k a b s =
    by_entry (λ n. Small (free n)) (number k) a b sort_table
    (inr zero_small
    ▸ inr zero_small
    ▸ inr zero_small
    ▸ inr zero_small
    ▸ inr zero_small
    ▸ inr zero_small
    ▸ inr zero_small
    ▸ inr s
    ▸ inr zero_small
    ▸ inr zero_small
    ▸ inr zero_small
    ▸ inr s
    ▸ inr zero_small
    ▸ inr zero_small
    ▸ inr zero_small
    ▸ inr s
    ▸ inr zero_small
    ▸ inr zero_small
    ▸ inr zero_small
    ▸ inr zero_small
    ▸ inr zero_small
    ▸ tt)
    zero_small

tab_free : (n : ℕ) (f : ℕ → Node) → ((i : ℕ) → Small (free (f i))) → FreeSmall (tab n f)
tab_free zero f h = tt
tab_free (suc n) f h = (h zero, tab_free n (λ i. f (suc i)) (λ i. h (suc i)))

pub claim_free : (ws : List ℤ) → AllSmall ws → FreeSmall (claim_of ws).nodes
unfolding claim_of
claim_free ws h =
    tab_free (nodes_in ws) (node_at ws) (λ i. node_free (word ws (3 * i)) (word ws (3 * i + 1)) (word ws (3 * i + 2)) (word_at_lem ws h (3 * i + 1)))
