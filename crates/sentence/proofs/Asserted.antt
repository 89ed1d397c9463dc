-- What a claim's sentence, what is asserted of it, and the answers "sat" and "unsat" say of the claim.
-- Assumes nothing.
use mathlib.Core.Path.{◌≡◌, sym}
use mathlib.Core.Logic.{◌↔◌}
use mathlib.Core.Bool.{true, not, true≢false}
use mathlib.Core.List.{[]}
use Prim.Native.Nat.{ℕ}
use lib.IntN.{ℤ, pos, negsuc}
use lib.Signed.{lt_z}
use Rattle.checker.specs.Claim.{Claim}
use Rattle.checker.specs.Meaning.{num, TrueAt}
use Rattle.sentence.specs.Smt.{the_size, bind, Means, Sat, nothing}
use Rattle.sentence.specs.Sentences.{Plain, sentence_of, asserted, commands, sized}
use Rattle.sentence.proofs.Agreement.{at_least, closed_means, agrees_start}

-- The sentence holds with MAXC = N exactly if the claim is true at size N.
pub sentence_true : (N : ℕ) (c : Claim) → Plain c → Means (sized N) (sentence_of c) ↔ TrueAt N c
unfolding sentence_of
sentence_true N c p = closed_means N c p.nodes c.quantifiers (sized N) [] p.quantifiers (agrees_start N)

pub asserted_true : (N : ℕ) (c : Claim) → Plain c → Means (sized N) (asserted c) ↔ (TrueAt N c → ⊥)
unfolding asserted
asserted_true N c p =
    let e = sentence_true N c p in
    ((λ h t. h (e.1 t)), (λ h m. h (e.0 m)))

-- "sat": the claim fails at some size.
pub satisfiable : (c : Claim) → Plain c → Sat nothing (commands c) ↔ ((N : ℕ) × (TrueAt N c → ⊥))
unfolding commands
satisfiable c p = ((λ s. go s.0 s.1.0 s.1.1.0), (λ f. (pos f.0, (at_least (pos f.0), ((asserted_true f.0 c p).1 f.1, tt)))))
  where
    go : (z : ℤ) → not (lt_z z (pos 0)) ≡ true → Means (bind nothing the_size (num z)) (asserted c) → (N : ℕ) × (TrueAt N c → ⊥)
    go (pos N) h m = (N, (asserted_true N c p).0 m)
    go (negsuc k) h m = absurd (true≢false (sym h))

-- "unsat": it fails at no size.
pub unsatisfiable : (c : Claim) → Plain c → (Sat nothing (commands c) → ⊥) ↔ ((N : ℕ) → (TrueAt N c → ⊥) → ⊥)
unsatisfiable c p = ((λ h N f. h ((satisfiable c p).1 (N, f))), (λ h s. let f = (satisfiable c p).0 s in h f.0 f.1))

-- A claim that is true at every size makes its text unsatisfiable,
pub true_unsat : (c : Claim) → Plain c → ((N : ℕ) → TrueAt N c) → Sat nothing (commands c) → ⊥
true_unsat c p h = (unsatisfiable c p).1 (λ N f. f (h N))

-- and where the text is unsatisfiable the claim is true at each size at which it is true or not true.
pub unsat_true : (c : Claim) → Plain c → (Sat nothing (commands c) → ⊥) → (N : ℕ) → Dec (TrueAt N c) → TrueAt N c
unsat_true c p h N (yes t) = t
unsat_true c p h N (no f) = absurd ((unsatisfiable c p).0 h N f)
