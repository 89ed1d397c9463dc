-- The parts of a scan, put one after the other, are the words of the claim that was scanned. Assumes nothing.
use mathlib.Core.Path.{◌≡◌}
use mathlib.Core.List.{List, [], ◌∷◌, map, map-append}
use Prim.Native.Nat.{ℕ, ◌+◌, ◌*◌, ◌≤◌}
use native.Mathlib.Nat.{zero-add, one-mul}
use native.Mathlib.Omega.{arith}
use lib.IntN.{ℤ, pos}
use lib.ListN.{length, take, drop}
use Rattle.checker.specs.Words.{nodes_words, quantifier_word, mark, words_of}
use Rattle.lent.specs.Write.{Wrote}
use Rattle.lent.proofs.Writing.{wrote_then, wrote_long}
use Rattle.sentence.specs.Scan.{number_from, nodes_from, quantifiers_from, scan}
use Rattle.scanner.specs.declared.Found.{Found}
use Rattle.scanner.specs.Finds.{most, Finds}
use Rattle.reader.specs.Held.{held}
use Rattle.reader.specs.Runs.{limits, most_words, RunPut}
use Rattle.solver.proofs.Fronts.{front_is}

module _ (text : List ℕ) {start name : List ℕ} {l l₁ l₂ l₃ l₄ : List ℤ} {q ns qs : Found ℕ} {root : Found ℤ} {n : ℕ}
    (opened : start ≡ drop 75 text)
    (first : RunPut (map quantifier_word) 1 (quantifiers_from most limits.quantifiers start) l 0 l₁ q)
    (nodes : RunPut nodes_words 3 (nodes_from most limits.nodes q.rest.now) l₁ 0 l₂ ns)
    (second : RunPut (map quantifier_word) 1 (quantifiers_from most limits.quantifiers start) l₂ (3 * ns.value) l₃ qs)
    (named : name ≡ drop 1 ns.rest.now)
    (number : Finds pos (number_from most 0 name) root)
    (last : Wrote l₃ (3 * ns.value + qs.value) (map held (root.value ∷ pos ns.value ∷ pos qs.value ∷ pos mark ∷ [])) l₄ n)
  where
    written : Wrote l₁ 0 (map held (words_of (scan limits text))) l₄ n
    unfolding scan words_of
    written =
        let nodes' = rw first.found.rest at nodes in
        let number' = rw (named, nodes'.found.rest) at number in
        rw (
          ← opened,
          map-append held (nodes_words _),
          map-append held (map quantifier_word _),
          ← number'.value,
          ← nodes'.found.value,
          ← second.found.value,
        )
        (wrote_then (simp zero-add at nodes'.words) (wrote_then (simp one-mul at second.words) last))

    pub put_front : most_words ≤ length l → n ≤ most_words → take n l₄ ≡ map held (words_of (scan limits text))
    put_front h few = front_is written (omega (arith, written.after, wrote_long first.words))
