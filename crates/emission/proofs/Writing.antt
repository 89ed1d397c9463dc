-- Laws of writing nodes: two writes one after the other are one of both, and what is left to write after a part of it.
-- Assumes nothing.
use mathlib.Core.Path.{◌≡◌, ap, ◌∙◌}
use mathlib.Core.List.{List, [], ◌∷◌, ◌++◌}
use Prim.Native.Nat.{ℕ, ◌+◌, ◌*◌, ◌≤◌, ◌<◌}
use native.Mathlib.Omega.{arith}
use borrow.Author.Rules.{sfits_of}
use lib.IntN.{ℤ, pos}
use lib.ListN.{length}
use lib.Signed.{mag}
use mir.Syntax.{w32}
use mir.Val.{to_z, of_z}
use mir.Facts.{to_z-of_z}
use Rattle.checker.specs.Claim.{Node}
use Rattle.checker.specs.Words.{fields, fields_of, node_words, nodes_words}
use Rattle.checker.proofs.Words.{nodes_words-length, words_append}
use Rattle.lent.specs.Write.{Wrote}
use Rattle.lent.proofs.Writing.{Rest, wrote_long, wrote_none, wrote_then, rest_start, rest_step, rest_end}
use Rattle.emission.specs.Write.{Room, WroteNodes}

-- ---- words

-- a signed local holds bits: the word that they say is the word
pub said : (z : ℤ) → mag z < 2147483648 → to_z w32 (of_z w32 z) ≡ z
said z h = to_z-of_z (sfits_of {w = w32} h)

-- ---- nodes

pub nodes_after : {l l' : List ℤ} {at next : ℕ} {ns : List Node} → WroteNodes l at ns l' next → next ≡ at + length ns
nodes_after {ns = ns} w = omega (arith, w.words.after, nodes_words-length ns)

pub nodes_long : {l l' : List ℤ} {at next : ℕ} {ns : List Node} → WroteNodes l at ns l' next → length l' ≡ length l
nodes_long w = wrote_long w.words

pub nodes_none : (l : List ℤ) (at : ℕ) → WroteNodes l at [] l at
unfolding nodes_words
nodes_none l at = record { words = wrote_none l (3 * at) }

-- a node's three words are the node
pub as_node : (n : Node) {l l' : List ℤ} {at next : ℕ} → Wrote l (3 * at) (pos (fields_of n).kind ∷ (fields_of n).a ∷ (fields_of n).b ∷ []) l' (3 * next) → WroteNodes l at (n ∷ []) l' next
unfolding nodes_words node_words
as_node n w = record { words = w }

pub as_fields : (n : Node) {l l' : List ℤ} {at next k : ℕ} {a b : ℤ} → fields_of n ≡ fields k a b → Wrote l (3 * at) (pos k ∷ a ∷ b ∷ []) l' (3 * next)
    → WroteNodes l at (n ∷ []) l' next
as_fields n e w = as_node n (rw e w)

split_words : (run us vs : List Node) → run ≡ us ++ vs → nodes_words run ≡ nodes_words us ++ nodes_words vs
split_words run us vs e = ap nodes_words e ∙ words_append us vs

pub nodes_then : {l l' l'' : List ℤ} {at m n : ℕ} {run us vs : List Node} → run ≡ us ++ vs → WroteNodes l at us l' m → WroteNodes l' m vs l'' n → WroteNodes l at run l'' n
nodes_then {run = run} {us = us} {vs = vs} e v w = record { words = rw (split_words run us vs e) (wrote_then v.words w.words) }

-- the same as `Rest`, of nodes
pub record RestNodes (l : List ℤ) (at : ℕ) (ns : List Node) (l₀ : List ℤ) (at₀ : ℕ) (ns₀ : List Node) : Type 0 where
  pub words : Rest l (3 * at) (nodes_words ns) l₀ (3 * at₀) (nodes_words ns₀)

pub nodes_start : {l : List ℤ} {at : ℕ} {ns : List Node} → RestNodes l at ns l at ns
nodes_start = record { words = rest_start }

pub nodes_step : {l l' l₀ : List ℤ} {at m at₀ : ℕ} {run us vs ns₀ : List Node} → run ≡ us ++ vs
    → RestNodes l at run l₀ at₀ ns₀ → WroteNodes l at us l' m → RestNodes l' m vs l₀ at₀ ns₀
nodes_step {run = run} {us = us} {vs = vs} e r w = record { words = rest_step (split_words run us vs e) r.words w.words }

pub nodes_end : {l l₀ : List ℤ} {at at₀ : ℕ} {run ns₀ : List Node} → run ≡ [] → RestNodes l at run l₀ at₀ ns₀ → WroteNodes l₀ at₀ ns₀ l at
unfolding nodes_words
nodes_end e r = record { words = rest_end (ap nodes_words e) r.words }

-- ---- room

pub room_part : {l : List ℤ} {at n : ℕ} (m : ℕ) → m ≤ n → Room l at n → Room l at m
room_part m h r = record { fits = omega (arith, r.fits); numbers = omega (arith, r.numbers) }

pub room_after : {l l' : List ℤ} {at next n : ℕ} {us : List Node} (m : ℕ) → length us + m ≤ n → Room l at n → WroteNodes l at us l' next → Room l' next m
room_after m h r w =
    record {
      fits = omega (arith, r.fits, nodes_after w, nodes_long w);
      numbers = omega (arith, r.numbers, nodes_after w);
    }
