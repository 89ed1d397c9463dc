-- The writer never refuses what the reducer emits of an input text: the lent bytes suffice. Assumes nothing.
use Rattle.std.proofs.Common.{Result, Ok, Err}
use Rattle.checker.specs.declared.Shape.{Shape}
use Rattle.checker.specs.declared.refusals.Refusal.{Refusal}
use mathlib.Core.Path.{◌≡◌, refl, sym, ap, ◌∙◌}
use mathlib.Core.Bool.{cond}
use mathlib.Core.List.{List}
use Prim.Native.Nat.{ℕ, ◌≤◌}
use native.Mathlib.Omega.{arith}
use borrow.Author.Tests.{le-ltb}
use lib.IntN.{ℤ}
use lib.ListN.{length}
use Rattle.checker.specs.Claim.{Claim}
use Rattle.checker.specs.Words.{claim_of, words_of}
use Rattle.checker.specs.Check.{verdict, check_of}
use Rattle.checker.proofs.Accepted.{accepted_claim}
use Rattle.emission.specs.Emission.{emission}
use Rattle.reducer.specs.Reduced.{reducer_tests, admission, answer, reduced_of}
use Rattle.reducer.proofs.Accepted.{accepted_nodes, accepted_quantifiers}
use Rattle.reducer.proofs.Admitted.{admitted_room}
use Rattle.reducer.proofs.Closed.{emission_sorted}
use Rattle.sentence.specs.Text.{text_of}
use Rattle.solver.specs.Written.{fitted}
use Rattle.text.specs.Answer.{lent_words, unread, input_words, answered}
use Rattle.smt_text.specs.Answer.{smt_reduced, smt_words}
use Rattle.smt_text.specs.Lent.{lent_bytes, written_text, fitted_text, fitted_reduced, fitted_words}
use Rattle.smt_text.proofs.Taken.{accepted}
use Rattle.smt_text.proofs.Free.{emission_free}
use Rattle.smt_text.proofs.Enough.{enough}
use Rattle.smt_text.proofs.Input.{AllSmall, input_small, claim_free}

fits : (c : Claim) → length (text_of c) ≤ lent_bytes → fitted_text c ≡ text_of c
unfolding fitted_text fitted written_text
fits c h = rw (le-ltb lent_bytes (length (text_of c)) h)

-- the reducer's answer for words that the checker accepts
claim_reduced : (ws : List ℤ) (room : ℕ) {s : Shape} → check_of ws ≡ Ok s
    → reduced_of ws room ≡ answer (emission (claim_of ws)) (verdict (reducer_tests room (emission (claim_of ws))) (Ok s))
unfolding reduced_of admission
claim_reduced ws room e = ap (λ v. answer (emission (claim_of ws)) (admission room (emission (claim_of ws)) v)) e

-- what is emitted has room in the lent words
emitted_room : (ws : List ℤ) (room n : ℕ) → reduced_of ws room ≡ Ok n → length (words_of (emission (claim_of ws))) ≤ room
unfolding answer
emitted_room ws room n e =
    let a = accepted ws room n e in
    go (verdict (reducer_tests room (emission (claim_of ws))) (Ok a.0)) refl (sym (claim_reduced ws room a.1) ∙ e)
  where
    go : (v : Result Shape Refusal) → verdict (reducer_tests room (emission (claim_of ws))) (Ok (accepted ws room n e).0) ≡ v
        → answer (emission (claim_of ws)) v ≡ Ok n → length (words_of (emission (claim_of ws))) ≤ room
    go (Ok t) p f = admitted_room (emission (claim_of ws)) room (accepted ws room n e).0 p
    go (Err r) p f = let z : ◌≡◌ {A = ℕ} 0 1 = cc f in absurd (omega arith)

module _ (ws : List ℤ) (small : AllSmall ws) where
  text_whole : (n : ℕ) → reduced_of ws lent_words ≡ Ok n → fitted_text (emission (claim_of ws)) ≡ text_of (emission (claim_of ws))
  text_whole n e =
      let a = accepted ws lent_words n e in
      fits (emission (claim_of ws))
      (enough (emission (claim_of ws)) (emission_sorted (claim_of ws) (accepted_claim ws a.0 a.1).sorted) (accepted_nodes ws a.0 a.1)
      (accepted_quantifiers ws a.0 a.1) (emission_free (claim_of ws) (claim_free ws small)) (emitted_room ws lent_words n e))

  pub words_whole : fitted_words ws ≡ smt_words ws
  unfolding fitted_words smt_words fitted_reduced smt_reduced
  words_whole = go (reduced_of ws lent_words) refl
    where
      go : (r : Result ℕ Refusal) → reduced_of ws lent_words ≡ r → fitted_reduced (claim_of ws) r ≡ smt_reduced (claim_of ws) r
      go (Ok n) e = text_whole n e
      go (Err r) e = refl

pub always_whole : (text : List ℕ) → answered fitted_words (input_words text) ≡ answered smt_words (input_words text)
unfolding answered
always_whole text = ap (λ t. cond (input_words text).all t unread) (words_whole (input_words text).words (input_small text))
