-- What the reducer leaves when it emits is taken by the writer. Assumes nothing.
use Rattle.std.proofs.Common.{◌≡◌, ℕ, List, ℤ, length, take, Result, Ok, Err, refl, sym, ap, ◌∙◌, arith}
use Rattle.checker.specs.declared.refusals.Refusal.{Refusal}
use Rattle.checker.specs.declared.Dialect.TheVariants as dialect
use Rattle.checker.specs.declared.Shape.{Shape}
use Rattle.checker.specs.Words.{claim_of, words_of}
use Rattle.checker.specs.Check.{check_of, check_as}
use Rattle.checker.specs.Accepted.{claim_shape}
use Rattle.checker.proofs.Accepted.{accepted_claim}
use Rattle.emission.specs.Emission.{emission}
use Rattle.reducer.specs.Reduced.{admission, answer, reduced_of, out_after}
use Rattle.text.proofs.Emissions.{emitted_within, emitted_taken, emitted_claim, emitted_table}
use Rattle.unsat.proofs.Emitted.{emission_accepted}

-- only a claim that the checker accepts is emitted
pub accepted : (ws : List ℤ) (room n : ℕ) → reduced_of ws room ≡ Ok n → (s : Shape) × (check_of ws ≡ Ok s)
unfolding reduced_of admission answer
accepted ws room n e = go (check_of ws) refl e
  where
    go : (x : Result Shape Refusal) → check_of ws ≡ x → answer (emission (claim_of ws)) (admission room (emission (claim_of ws)) x) ≡ Ok n
        → (s : Shape) × (check_of ws ≡ Ok s)
    go (Ok s) p f = (s, p)
    go (Err r) p f = grind arith

pub emission_taken : (ws l : List ℤ) (n : ℕ) → reduced_of ws (length l) ≡ Ok n
    → check_as dialect.Emitted (take n (out_after ws l)) ≡ Ok (claim_shape (claim_of (take n (out_after ws l))))
emission_taken ws l n e =
    let s = accepted ws (length l) n e in
    let a = accepted_claim ws s.0 s.1 in
    let claim = emitted_claim ws l n e in
    let words : take n (out_after ws l) ≡ words_of (emission (claim_of ws)) = sym (emitted_table ws l n e) ∙ ap words_of claim in
    rw (claim, words) (emission_accepted (claim_of ws) a.sorted a.limited)

pub ruleset taken = (emission_taken, emitted_within, emitted_taken, emitted_claim)
