-- The same from words: for every table that the checker accepts, the writer writes the text of its emission where it has room, and "unsat" for that
-- text says that the claim is true at every size. Assumes nothing.
use Rattle.std.proofs.Common.{Ok}
use mathlib.Core.Path.{◌≡◌, ap, ◌∙◌}
use mathlib.Core.Logic.{◌↔◌}
use mathlib.Core.List.{List, ◌++◌}
use Prim.Native.Nat.{ℕ, ◌≤◌}
use borrow.Author.Tests.{le-ltb}
use lib.Dec.{T}
use lib.IntN.{ℤ}
use lib.ListN.{length, drop}
use Rattle.checker.specs.declared.Shape.{Shape}
use Rattle.checker.specs.Claim.{Claim}
use Rattle.checker.specs.Words.{claim_of, words_of}
use Rattle.checker.specs.Meaning.{TrueAt}
use Rattle.checker.specs.Check.{check_of}
use Rattle.checker.proofs.Accepted.{accepted_claim}
use Rattle.checker.proofs.Words.{claim_words}
use Rattle.emission.specs.Emission.{emission}
use Rattle.decider.specs.Plan.{only_sets}
use Rattle.sentence.specs.Smt.{Sat, nothing}
use Rattle.sentence.specs.Sentences.{commands}
use Rattle.sentence.specs.Text.{text_of}
use Rattle.solver.specs.Written.{fitted, written_of, held_after, out_after}
use Rattle.solver.proofs.Answers.{claim_answer}
use Rattle.unsat.proofs.Emitted.{emission_accepted}
use Rattle.unsat.proofs.Unsat.{unsat_nowhere_false, unsat_sets}

module _ (ws : List ℤ) (s : Shape) (accepted : check_of ws ≡ Ok s) where
  abbrev emitted : Claim
  emitted = emission (claim_of ws)

  -- the writer takes the emission, whatever it has room for
  pub emission_taken : (room : ℕ) → written_of (words_of emitted) room ≡ fitted room emitted
  emission_taken room =
      let a = accepted_claim ws s accepted in
      claim_answer (words_of emitted) room (emission_accepted (claim_of ws) a.sorted a.limited) ∙ ap (fitted room) (claim_words emitted)

  -- and writes its text, if there is room for it
  module _ (out : List ℕ) (h : length (text_of emitted) ≤ length out) where
    pub emission_written : written_of (words_of emitted) (length out) ≡ Ok (length (text_of emitted))
    emission_written = emission_taken (length out) ∙ fits
      where
        fits : fitted (length out) emitted ≡ Ok (length (text_of emitted))
        fits = unfold fitted in rw (le-ltb (length out) (length (text_of emitted)) h)

    pub emission_text : out_after (words_of emitted) out ≡ text_of emitted ++ drop (length (text_of emitted)) out
    unfolding out_after held_after
    emission_text = rw (emission_written, claim_words emitted)

  pub words_nowhere_false : (Sat nothing (commands emitted) → ⊥) ↔ ((N : ℕ) → (TrueAt N (claim_of ws) → ⊥) → ⊥)
  words_nowhere_false = unsat_nowhere_false (claim_of ws) (accepted_claim ws s accepted).sorted

  pub words_unsat : T (only_sets (claim_of ws).quantifiers) → (Sat nothing (commands emitted) → ⊥) ↔ ((N : ℕ) → TrueAt N (claim_of ws))
  words_unsat o = unsat_sets (claim_of ws) (accepted_claim ws s accepted).sorted o
