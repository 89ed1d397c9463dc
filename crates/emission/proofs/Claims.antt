-- The nodes and quantifiers of accepted words: their fields, and that they fit.
-- Assumes nothing.
use mathlib.Core.Path.{◌≡◌, refl, sym, ap, ◌∙◌}
use mathlib.Core.Bool.{true}
use mathlib.Core.List.{List, [], ◌∷◌, ◌++◌, map}
use Prim.Native.Nat.{ℕ, zero, suc, ◌+◌, ◌*◌, ◌≤◌, ◌<◌}
use native.Mathlib.Omega.{arith}
use lib.IntN.{ℤ, pos}
use lib.ListN.{length, get_or, take}
use lib.Seq.{get_or-take, length-take-le}
use Rattle.std.specs.Prelude.{Some}
use Rattle.checker.specs.declared.Shape.{Shape}
use Rattle.checker.specs.declared.Sort.{Sort}
use Rattle.checker.specs.Claim.{Node, unknown, int_q}
use Rattle.checker.specs.Kinds.{number, quantifier_of}
use Rattle.checker.specs.Words.{word, word_at, node_at, claim_of, fields_of, node_words, nodes_words, quantifier_word, trailer, words_of}
use Rattle.checker.specs.Sorts.{sort, Is, Fits}
use Rattle.checker.proofs.Fitting.{fits_at}
use Rattle.checker.proofs.Claims.{node_count_lem, node_at_lem, quantifier_in, Sound}

-- quantifier j by its kind, where there are n nodes
pub quantifier_at_lem : (ws : List ℤ) (n j : ℕ) → n ≡ length (claim_of ws).nodes → j < length (claim_of ws).quantifiers
    → get_or (claim_of ws).quantifiers j (int_q true) ≡ quantifier_of (pos (word_at ws (3 * n + j)))
unfolding quantifier_of number word_at
quantifier_at_lem ws n j e h = quantifier_in ws j h ∙ rw (← node_count_lem ws, e)

-- the words of node i in a list of words
record WordsAt (ws : List ℤ) (i : ℕ) (n : Node) : Type 0 where
  kind : word ws (3 * i) ≡ pos (fields_of n).kind
  first : word ws (3 * i + 1) ≡ (fields_of n).a
  second : word ws (3 * i + 2) ≡ (fields_of n).b

words_in_lem : (ns : List Node) (rest : List ℤ) (i : ℕ) → i < length ns → WordsAt (nodes_words ns ++ rest) i (get_or ns i unknown)
unfolding nodes_words node_words
words_in_lem [] rest i h = absurd (omega arith)
words_in_lem (n ∷ ns) rest zero h = record { kind = refl; first = refl; second = refl }
words_in_lem (n ∷ ns) rest (suc i) h =
    let w = words_in_lem ns rest i (omega arith) in
    let e₀ : 3 * suc i ≡ suc (suc (suc (3 * i))) = omega arith in
    let e₁ : 3 * suc i + 1 ≡ suc (suc (suc (3 * i + 1))) = omega arith in
    let e₂ : 3 * suc i + 2 ≡ suc (suc (suc (3 * i + 2))) = omega arith in
    record { kind = rw e₀ w.kind; first = rw e₁ w.first; second = rw e₂ w.second }

module _ {ws : List ℤ} {shape : Shape} (s : Sound ws shape) (i : ℕ) (h : i < shape.nodes) where
  words_at : WordsAt ws i (get_or (claim_of ws).nodes i unknown)
  unfolding words_of
  words_at =
      let c = claim_of ws in
      rw s.same at (words_in_lem c.nodes (map quantifier_word c.quantifiers ++ trailer c) i (omega (arith, s.nodes)))

  -- the fields of node i
  pub kind_is : word_at ws (3 * i) ≡ (fields_of (get_or (claim_of ws).nodes i unknown)).kind
  unfolding word_at number
  kind_is = ap number words_at.kind

  pub first_is : word_at ws (3 * i + 1) ≡ number (fields_of (get_or (claim_of ws).nodes i unknown)).a
  unfolding word_at
  first_is = ap number words_at.first

  pub second_is : word_at ws (3 * i + 2) ≡ number (fields_of (get_or (claim_of ws).nodes i unknown)).b
  unfolding word_at
  second_is = ap number words_at.second

  pub node_is : get_or (claim_of ws).nodes i unknown ≡ node_at ws i
  node_is = node_at_lem ws i (omega (arith, s.nodes))

  pub node_fits : Fits (claim_of ws).quantifiers (take i (claim_of ws).nodes) (get_or (claim_of ws).nodes i unknown)
  node_fits = fits_at (claim_of ws).quantifiers (claim_of ws).nodes s.sorted.0 i (omega (arith, s.nodes))

-- a child of node i
pub child_is : (ns : List Node) (i : ℕ) {t : Sort} (a : ℕ) → i ≤ length ns → Is t (take i ns) a → (a < i) × (sort (get_or ns a unknown) ≡ Some t)
child_is ns i a l f =
    let less : a < i = omega (arith, f.0, length-take-le i ns l) in
    (less, ap sort (sym (get_or-take i ns a unknown less)) ∙ f.1)
