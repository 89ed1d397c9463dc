-- What the reducer leaves in the lent words when it emits: the emission's words at the front. Assumes nothing.
use Rattle.std.proofs.Common.{◌≡◌, ℕ, ◌≤◌, List, ℤ, ◌++◌, length, take, drop, Result, Ok, Err, sym, ap, arith, length-append, length-take-le}
use Rattle.std.proofs.lemmas.List.{take_at}
use Rattle.std.proofs.lemmas.Bool.Decides.{nat_tests}
use Rattle.checker.specs.declared.refusals.Refusal.{Refusal}
use Rattle.checker.specs.declared.Shape.{Shape}
use Rattle.checker.specs.Words.{claim_of, words_of}
use Rattle.checker.specs.Check.{verdict, check_of}
use Rattle.checker.proofs.Words.{claim_words}
use Rattle.emission.specs.Emission.{emission}
use Rattle.reducer.specs.Reduced.{reducer_tests, admission, answer, reduced_of, held_after, out_after}

-- an emission that is answered is there in full, and there is room for it
answered_whole : (ws : List ℤ) (room n : ℕ) → reduced_of ws room ≡ Ok n
    → (length (words_of (emission (claim_of ws))) ≡ n) × (n ≤ room)
unfolding reduced_of admission reducer_tests verdict answer
answered_whole ws room n e = go (check_of ws) e
  where
    go : (x : Result Shape Refusal) → answer (emission (claim_of ws)) (admission room (emission (claim_of ws)) x) ≡ Ok n
        → (length (words_of (emission (claim_of ws))) ≡ n) × (n ≤ room)
    go (Ok s) e = grind (arith, nat_tests)
    go (Err r) e = grind arith

module _ (ws l : List ℤ) (n : ℕ) (e : reduced_of ws (length l) ≡ Ok n) where
  abbrev words : List ℤ
  words = words_of (emission (claim_of ws))

  left : out_after ws l ≡ words ++ drop n l
  unfolding out_after held_after
  left = ap (λ x. held_after x (emission (claim_of ws)) l) e

  emitted_words : take n (out_after ws l) ≡ words
  emitted_words = rw left (take_at words (drop n l) n (answered_whole ws (length l) n e).0)

  pub emitted_fits : n ≤ length l
  emitted_fits = (answered_whole ws (length l) n e).1

  pub emitted_within : n ≤ length (out_after ws l)
  emitted_within = rw (left, length-append words) (omega (arith, (answered_whole ws (length l) n e).0))

  pub emitted_taken : length (take n (out_after ws l)) ≡ n
  emitted_taken = length-take-le n (out_after ws l) emitted_within

  pub emitted_claim : claim_of (take n (out_after ws l)) ≡ emission (claim_of ws)
  emitted_claim = rw emitted_words (claim_words (emission (claim_of ws)))

  pub emitted_table : words_of (claim_of (take n (out_after ws l))) ≡ take n (out_after ws l)
  emitted_table = rw emitted_claim (sym emitted_words)

pub ruleset emissions = (emitted_fits, emitted_within, emitted_taken, emitted_claim, emitted_table)
