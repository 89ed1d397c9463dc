-- What the writer answers in each case, and what is known of an accepted table. Assumes nothing.
use Rattle.std.proofs.Common.{Ok}
use mathlib.Core.Path.{◌≡◌, ap}
use mathlib.Core.List.{List}
use Prim.Native.Nat.{ℕ}
use native.Mathlib.Omega.{arith}
use lib.IntN.{ℤ}
use lib.ListN.{length}
use Rattle.checker.specs.declared.Dialect.TheVariants.{Emitted}
use Rattle.checker.specs.declared.Shape.{Shape}
use Rattle.checker.specs.Words.{claim_of}
use Rattle.checker.specs.Check.{check_as}
use Rattle.checker.proofs.Accepted.{accepted_claim_as}
use Rattle.checker.proofs.Words.{words-length}
use Rattle.solver.specs.Laid.{Laid}
use Rattle.solver.specs.Written.{fitted, answer, written_of}

-- ---- accepted tables

pub laid : (ws : List ℤ) (s : Shape) → check_as Emitted ws ≡ Ok s → Laid ws s
laid ws s e =
    let a = accepted_claim_as Emitted ws s e in
    let n : s.nodes ≡ length (claim_of ws).nodes = ap (λ x. x.nodes) a.shape in
    let q : s.quantifiers ≡ length (claim_of ws).quantifiers = ap (λ x. x.quantifiers) a.shape in
    record {
      nodes = n;
      quantifiers = q;
      root = ap (λ x. x.root) a.shape;
      few_nodes = omega (arith, a.limited.few_nodes);
      few_quantifiers = omega (arith, a.limited.few_quantifiers);
      long = omega (arith, ap length a.words, words-length (claim_of ws));
    }

-- ---- the answer to them

module _ (ws : List ℤ) where
  pub claim_answer : (room : ℕ) {s : Shape} → check_as Emitted ws ≡ Ok s → written_of ws room ≡ fitted room (claim_of ws)
  unfolding written_of answer
  claim_answer room e = ap (answer room (claim_of ws)) e
