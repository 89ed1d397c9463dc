-- The emitted quantifiers in the parts in which they are written.
-- Assumes nothing.
use mathlib.Core.Path.{◌≡◌, refl, sym, ap, ap₂, ◌∙◌}
use mathlib.Core.Bool.{Bool, true, false}
use mathlib.Core.List.{List, [], ◌∷◌, ◌++◌, map, map-append}
use Prim.Native.Nat.{ℕ, zero, suc, ◌+◌, ◌*◌, ◌^◌, ◌%◌, ◌≤◌, ◌<◌}
use native.Mathlib.Omega.{arith}
use lib.IntN.{ℤ, pos}
use lib.ListN.{length, get_or, take, drop, replicate, length-append, length-map, take-append-drop}
use lib.Seq.{get_or-append-add, take-length}
use Rattle.checker.specs.declared.Shape.{Shape}
use Rattle.checker.specs.Claim.{Quantifier, int_q, set_q, count_q, Claim}
use Rattle.checker.specs.Kinds.{number, quantifier_of}
use Rattle.checker.specs.Words.{word, word_at, claim_of, nodes_words, quantifier_word, trailer, words_of}
use Rattle.checker.specs.Sorts.{is_set_q}
use Rattle.checker.proofs.Words.{nodes_words-length}
use Rattle.region.specs.Regions.{dbl}
use Rattle.region.proofs.Regions.{dbl_is}
use Rattle.emission.specs.declared.Frame as code
use Rattle.emission.specs.Emission.{Frame, start, inside_all, becomes, emit_quantifiers, emission}
use Rattle.emission.specs.Plan.{frame_at}
use Rattle.emission.proofs.Steps.{quantifiers-append, quantifiers_step}
use Rattle.emission.proofs.Frames.{regions_are, shifted, kind_number}
use Rattle.reducer.specs.Closing.{Prepared, becomes_at}
use Rattle.reducer.proofs.Joining.{known, in_claim, frame_says, frame_within, kind_is}

-- ---- a number written again and again

map-replicate : {A B : Type 0} (f : A → B) (n : ℕ) (x : A) → map f (replicate n x) ≡ replicate n (f x)
map-replicate f zero x = refl
map-replicate f (suc n) x = ap (λ l. f x ∷ l) (map-replicate f n x)

-- ---- a quantifier

-- a quantifier's word is a number
word_number : (q : Quantifier) → pos (number (quantifier_word q)) ≡ quantifier_word q
unfolding number
word_number (int_q true) = refl
word_number (int_q false) = refl
word_number (set_q true) = refl
word_number (set_q false) = refl
word_number (count_q true) = refl
word_number (count_q false) = refl

word_small : (q : Quantifier) → number (quantifier_word q) ≤ 6
unfolding number
word_small (int_q true) = omega arith
word_small (int_q false) = omega arith
word_small (set_q true) = omega arith
word_small (set_q false) = omega arith
word_small (count_q true) = omega arith
word_small (count_q false) = omega arith

word_at_lem : (qs : List Quantifier) (rest : List ℤ) (j : ℕ) → j < length qs → get_or (map quantifier_word qs ++ rest) j (pos 0) ≡ quantifier_word (get_or qs j (int_q true))
word_at_lem [] rest j h = absurd (omega arith)
word_at_lem (q ∷ qs) rest zero h = refl
word_at_lem (q ∷ qs) rest (suc j) h = word_at_lem qs rest j (omega arith)

becomes_set : (f : Frame) (some : Bool) → map quantifier_word (becomes f (set_q some)) ≡ replicate (dbl f.regions) (quantifier_word (count_q some))
unfolding becomes
becomes_set f some = map-replicate quantifier_word (dbl f.regions) (count_q some)

becomes_number : (f : Frame) (q : Quantifier) → is_set_q q ≡ false → map quantifier_word (becomes f q) ≡ quantifier_word q ∷ []
unfolding becomes
becomes_number f (int_q some) e = refl
becomes_number f (set_q some) e = let z : ◌≡◌ {A = ℕ} 0 1 = cc in absurd (omega arith)
becomes_number f (count_q some) e = refl

module _ {ws : List ℤ} {shape : Shape} {plan : List ℕ} (p : Prepared ws shape plan) (j : ℕ) (h : j < shape.quantifiers) where
  abbrev quantifiers : List Quantifier
  quantifiers = (claim_of ws).quantifiers

  kind_word : (k : ℕ) → k ≡ word_at ws (3 * shape.nodes + j) → pos k ≡ quantifier_word (get_or quantifiers j (int_q true))
  unfolding word_at words_of
  kind_word k e =
      let c = claim_of ws in
      let at : 3 * shape.nodes + j ≡ length (nodes_words c.nodes) + j = omega (arith, (known p).nodes, nodes_words-length c.nodes) in
      let same : word ws (3 * shape.nodes + j) ≡ quantifier_word (get_or quantifiers j (int_q true)) =
      ap₂ word (sym (known p).same) at ∙ get_or-append-add (nodes_words c.nodes) (map quantifier_word quantifiers ++ trailer c) j (pos 0)
      ∙ word_at_lem quantifiers (trailer c) j (in_claim p j h) in
      ap pos (e ∙ ap number same) ∙ word_number (get_or quantifiers j (int_q true))

  pub kind_small : (k : ℕ) → k ≡ word_at ws (3 * shape.nodes + j) → k ≤ 6
  unfolding number
  kind_small k e = rw (← kind_word k e) at (word_small (get_or quantifiers j (int_q true)))

  pub number_becomes : (k : ℕ) → k ≡ word_at ws (3 * shape.nodes + j) → (3 ≤ k → k < 5 → ⊥) → becomes_at (claim_of ws) j ≡ pos k ∷ []
  unfolding becomes_at
  number_becomes k e n =
      becomes_number _ (get_or quantifiers j (int_q true)) (ap is_set_q (kind_is p j h k (sym e)) ∙ kind_number k n) ∙ ap (λ z. z ∷ []) (sym (kind_word k e))

  module _ {f : code.Frame} (e : f ≡ frame_at plan j) where
    regions_twice : 2 * 2 ^ f.level % 2 ^ 64 ≡ dbl (inside_all start (take j quantifiers)).regions
    regions_twice =
        let says = frame_says p j h e in
        shifted f.level (frame_within p j h e).level ∙ ap (λ k. 2 * 2 ^ k) says.level ∙ ap (λ n. 2 * n) (sym (regions_are (take j quantifiers)))
        ∙ sym (dbl_is (inside_all start (take j quantifiers)).regions)

    set_becomes : (some : Bool) → get_or quantifiers j (int_q true) ≡ set_q some
        → becomes_at (claim_of ws) j ≡ replicate (2 * 2 ^ f.level % 2 ^ 64) (quantifier_word (count_q some))
    unfolding becomes_at
    set_becomes some q =
        ap (λ x. map quantifier_word (becomes (inside_all start (take j quantifiers)) x)) q ∙ becomes_set _ some
        ∙ ap (λ n. replicate n (quantifier_word (count_q some))) (sym regions_twice)

    pub some_becomes : word_at ws (3 * shape.nodes + j) ≡ 3 → becomes_at (claim_of ws) j ≡ replicate (2 * 2 ^ f.level % 2 ^ 64) (pos 5)
    unfolding quantifier_of number
    some_becomes w = set_becomes true (kind_is p j h 3 w)

    pub all_becomes : word_at ws (3 * shape.nodes + j) ≡ 4 → becomes_at (claim_of ws) j ≡ replicate (2 * 2 ^ f.level % 2 ^ 64) (pos 6)
    unfolding quantifier_of number
    all_becomes w = set_becomes false (kind_is p j h 4 w)

-- ---- one quantifier further

module _ (c : Claim) where
  pub emitted_none : map quantifier_word (emit_quantifiers start (take 0 c.quantifiers)) ≡ []
  unfolding emit_quantifiers
  emitted_none = refl

  pub emitted_step : (j : ℕ) → j < length c.quantifiers
      → map quantifier_word (emit_quantifiers start (take (j + 1) c.quantifiers)) ≡ map quantifier_word (emit_quantifiers start (take j c.quantifiers)) ++ becomes_at c j
  unfolding becomes_at
  emitted_step j h =
      ap (map quantifier_word) (quantifiers_step start c.quantifiers (int_q true) j h) ∙ map-append quantifier_word (emit_quantifiers start (take j c.quantifiers)) _

  -- what the first j become is a part of the whole
  emitted_front : (j : ℕ) → length (emit_quantifiers start (take j c.quantifiers)) ≤ length (emission c).quantifiers
  unfolding emission
  emitted_front j =
      let front = emit_quantifiers start (take j c.quantifiers) in
      let rest = emit_quantifiers (inside_all start (take j c.quantifiers)) (drop j c.quantifiers) in
      let all : emit_quantifiers start c.quantifiers ≡ front ++ rest =
      ap (emit_quantifiers start) (sym (take-append-drop j c.quantifiers)) ∙ quantifiers-append start (take j c.quantifiers) (drop j c.quantifiers) in
      omega (arith, ap length all, length-append front rest)

  pub emitted_room : (j : ℕ) → j < length c.quantifiers
      → length (map quantifier_word (emit_quantifiers start (take j c.quantifiers))) + length (becomes_at c j) ≤ length (emission c).quantifiers
  emitted_room j h =
      let words = map quantifier_word (emit_quantifiers start (take j c.quantifiers)) in
      omega (
        arith,
        emitted_front (j + 1),
        length-map (emit_quantifiers start (take (j + 1) c.quantifiers)) quantifier_word,
        ap length (emitted_step j h),
        length-append words (becomes_at c j),
      )

  pub emitted_all : (j : ℕ) → j ≡ length c.quantifiers → map quantifier_word (emit_quantifiers start (take j c.quantifiers)) ≡ map quantifier_word (emission c).quantifiers
  unfolding emission
  emitted_all j e = rw (e, take-length c.quantifiers)
