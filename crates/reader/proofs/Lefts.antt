-- Runs of nodes and of quantifiers: what is left of the text, and what is still to be put. Assumes nothing.
use mathlib.Core.Path.{◌≡◌, refl, sym, ap, ◌∙◌}
use mathlib.Core.Bool.{Bool, true, false, ◌||◌}
use mathlib.Core.List.{List, [], ◌∷◌, ◌++◌, map}
use Prim.Native.Nat.{ℕ, zero, suc, ◌+◌, ◌*◌, ◌-◌, ◌≤◌, ◌<◌}
use native.Mathlib.Omega.{arith}
use lib.IntN.{ℤ}
use lib.ListN.{length}
use Rattle.checker.specs.Claim.{Node}
use Rattle.checker.specs.Words.{node_words, nodes_words}
use Rattle.lent.specs.Write.{Wrote}
use Rattle.lent.proofs.Writing.{Rest, rest_step, rest_end}
use Rattle.sentence.specs.Scan as scan
use Rattle.sentence.specs.Scan.{is, found, before, line_from, nodes_from, quantifier_from, quantifiers_from}
use Rattle.scanner.specs.declared.Found.{Found}
use Rattle.scanner.specs.Finds.{most}
use Rattle.reader.specs.Held.{held}
use Rattle.reader.specs.Runs.{RunPut}

-- At most so many things are found one behind the other: `one` finds the first, where the text `begins` with one.
pub record Run {A : Type 0} (all : ℕ → List ℕ → scan.Found (List A)) (one : List ℕ → scan.Found A) (begins : List ℕ → Bool) : Type 0
  where
    pub full : (bs : List ℕ) → all 0 bs ≡ found [] bs
    pub over : (room : ℕ) (bs : List ℕ) → begins bs ≡ false → all room bs ≡ found [] bs
    pub more : (room : ℕ) (bs : List ℕ) → begins bs ≡ true → all (suc room) bs ≡ before (one bs) (all room (one bs).rest)

nodes_over : (room : ℕ) (bs : List ℕ) → is 0 "(" bs ≡ false → nodes_from most room bs ≡ found [] bs
unfolding nodes_from
nodes_over zero bs e = refl
nodes_over (suc room) bs e = rw e

pub nodes_run : Run (nodes_from most) (line_from most) (is 0 "(")
unfolding nodes_from
nodes_run = record { full = λ bs. refl; over = nodes_over; more = λ room bs e. rw e }

abbrev pub quantifies : List ℕ → Bool
quantifies bs = is 1 "e" bs || is 1 "f" bs

quantifiers_over : (room : ℕ) (bs : List ℕ) → quantifies bs ≡ false → quantifiers_from most room bs ≡ found [] bs
unfolding quantifiers_from
quantifiers_over zero bs e = refl
quantifiers_over (suc room) bs e = rw e

pub quantifiers_run : Run (quantifiers_from most) (quantifier_from most) quantifies
unfolding quantifiers_from
quantifiers_run = record { full = λ bs. refl; over = quantifiers_over; more = λ room bs e. rw e }

-- ---- what is left

module _ {A : Type 0} (words_of : List A → List ℤ) (width : ℕ) where
  -- After i things of the whole w, whose words go from l into l', what is left is f.
  pub record Left (w : scan.Found (List A)) (l : List ℤ) (from : ℕ) (l' : List ℤ) (i : ℕ) (f : scan.Found (List A)) : Type 0 where
    pub count : length w.value ≡ i + length f.value
    pub ends : w.rest ≡ f.rest
    pub words : Rest l' (from + width * i) (map held (words_of f.value)) l from (map held (words_of w.value))

  module _ {all : ℕ → List ℕ → scan.Found (List A)} {one : List ℕ → scan.Found A} {begins : List ℕ → Bool} (run : Run all one begins)
      (n : ℕ) {w : scan.Found (List A)} {l l' : List ℤ} {from i : ℕ} {bs : List ℕ} (h : Left w l from l' i (all (n - i) bs))
    where
      -- The text begins with one more, whose words are ws.
      pub left_step : i < n → begins bs ≡ true
          → {ws : List ℤ} → ((xs : List A) → map held (words_of ((one bs).value ∷ xs)) ≡ ws ++ map held (words_of xs)) → length ws ≡ width
          → {at : ℕ} → at ≡ from + width * i → {l'' : List ℤ} {m : ℕ} → Wrote l' at ws l'' m → {rest : List ℕ} → rest ≡ (one bs).rest
          → Left w l from l'' (i + 1) (all (n - (i + 1)) rest)
      left_step k b {ws} s z p {l''} {m} o e =
          let g = all (n - (i + 1)) (one bs).rest in
          let r : n - i ≡ suc (n - (i + 1)) = omega arith in
          let f : all (n - i) bs ≡ before (one bs) g = rw r (run.more (n - (i + 1)) bs b) in
          let t : m ≡ from + width * (i + 1) = omega (arith, o.after) in
          let c : length (all (n - i) bs).value ≡ length g.value + 1 = ap (λ k. length k.value) f ∙ omega arith in
          let o' : Wrote l' (from + width * i) ws l'' m = rw (← p) o in
          rw e (record {
            count = omega (arith, h.count);
            ends = h.ends ∙ ap (λ k. k.rest) f;
            words = rw (← t) (rest_step (ap (λ k. map held (words_of k.value)) f ∙ s g.value) h.words o');
          })

      module _ (none : words_of [] ≡ []) (r : Found ℕ) (count : r.value ≡ i) (rest : r.rest.now ≡ bs) where
        done : all (n - i) bs ≡ found [] bs → RunPut words_of width w l from l' r
        done e =
            let c : length (all (n - i) bs).value ≡ 0 = ap (λ g. length g.value) e in
            record {
              found = record { value = omega (arith, h.count); rest = rest ∙ ap (λ g. g.rest) (sym e) ∙ sym h.ends };
              words = rw count (rest_end (ap (λ g. map held (words_of g.value)) e ∙ ap (map held) none) h.words);
            }

        pub left_over : begins bs ≡ false → RunPut words_of width w l from l' r
        left_over b = done (run.over (n - i) bs b)

        pub left_full : n ≤ i → RunPut words_of width w l from l' r
        left_full k = let z : n - i ≡ 0 = omega arith in done (rw z (run.full bs))

-- ---- words

pub node_put : (x : Node) (xs : List Node) → map held (nodes_words (x ∷ xs)) ≡ map held (node_words x) ++ map held (nodes_words xs)
unfolding nodes_words node_words
node_put x xs = refl

pub no_nodes : nodes_words [] ≡ []
unfolding nodes_words
no_nodes = refl
