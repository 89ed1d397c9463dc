-- The emission of a claim is true at every size where the claim is, and at no other.
-- Assumes nothing.
use mathlib.Core.Path.{◌≡◌, refl, sym, ◌∙◌, ap, subst}
use mathlib.Core.Logic.Iff
use mathlib.Core.Logic.{◌↔◌}
use mathlib.Core.Bool.{Bool, true}
use mathlib.Core.List.{List, [], ◌∷◌, ◌++◌, append_assoc, append-nil}
use Prim.Native.Nat.{ℕ}
use lib.IntN.{ℤ, pos}
use lib.ListN.{length}
use Rattle.checker.specs.declared.Sort.TheVariants.{AFormula}
use Rattle.checker.specs.Claim.{Quantifier, Claim, int_q, set_q, count_q}
use Rattle.checker.specs.Words.{claim_of, words_of}
use Rattle.checker.specs.Sorts.{WellSorted}
use Rattle.checker.specs.Meaning.{Value, as_truth, truth_at, World, matrix, ports, TrueAt, num}
use Rattle.checker.proofs.Words.{claim_words}
use Rattle.region.specs.Regions.{dbl, Split, regions}
use Rattle.region.specs.Counting.{grow, HoldsR, TrueAtR}
use Rattle.region.proofs.Regions.{split_doubles}
use Rattle.region.proofs.Quantified.{quantified_same}
use Rattle.region.proofs.Counting.{theorem_a}
use Rattle.emission.specs.Emission.{Frame, start, with_number, with_set, inside_all, becomes, emit_quantifiers, Body, close, body, emission}
use Rattle.reducer.proofs.Stands.{nothing, shaped_none, shaped_all}
use Rattle.reducer.proofs.Kept.{Final, kept_none, kept_all}
use Rattle.reducer.proofs.Bodies.{says, Rooted, guarded, says-join, close_rooted}
use Rattle.reducer.proofs.Splits.{splits, splits_make, splits_true}
use Rattle.reducer.proofs.Bindings.{no_sets_emit, counts_of, Bound, bound_start, bound_number, bound_set, held_is, bound_final}
use Rattle.reducer.proofs.Blocks.{Inner, one_set}

-- ---- the matrix

pub body_rooted : (c : Claim) → WellSorted c → Rooted (body c)
unfolding body nothing
body_rooted c h = ((shaped_all (inside_all start c.quantifiers) c.nodes [] nothing shaped_none).placed AFormula tt c.root h.1).0

body_says : (c : Claim) → WellSorted c → (w : World) (us vs : List Value) (cs : List ℕ)
    → Final w c.quantifiers (inside_all start c.quantifiers) us vs cs → says w us (body c) ≡ matrix (regions cs) c vs
unfolding body nothing says matrix truth_at
body_says c h w us vs cs m =
    ap as_truth ((kept_all w c.quantifiers (inside_all start c.quantifiers) us vs cs m c.nodes [] nothing shaped_none h.0
    (kept_none w c.quantifiers (inside_all start c.quantifiers) us vs cs m)).others AFormula tt c.root h.1)

-- ---- truth

module _ (N : ℕ) (c : Claim) (sorted : WellSorted c) where
  -- Where the constraints of the bound quantifiers hold, the matrix says what the nodes before those say.
  abbrev Says : Frame → List Quantifier → List Value → Type 0
  Says f qs us = (more : List Value) → matrix (ports N) (emission c) (us ++ more) ≡ says (ports N) (us ++ more) (close f qs (body c))

  more_says : (f : Frame) (qs : List Quantifier) (us vs : List Value) → Says f qs us → Says f qs (us ++ vs)
  more_says f qs us vs h more = rw append_assoc (h (vs ++ more))

  -- all quantifiers are bound
  innermost : (done : List Quantifier) (f : Frame) (us vs : List Value) (cs : List ℕ) → Bound (ports N) done f us vs cs
      → done ++ [] ≡ c.quantifiers → f ≡ inside_all start c.quantifiers → Says f [] us
      → matrix (ports N) (emission c) us ≡ matrix (regions cs) c vs
  unfolding close
  innermost done f us vs cs b d i h =
      let m : Final (ports N) c.quantifiers (inside_all start c.quantifiers) us vs cs =
      subst (λ g. Final (ports N) c.quantifiers g us vs cs) i (subst (λ l. Final (ports N) l f us vs cs) (sym (append-nil done) ∙ d) (bound_final (ports N) done f us vs cs b)) in
      (rw append-nil at (h [])) ∙ body_says c sorted (ports N) us vs cs m

  -- one more set
  module _ (done : List Quantifier) (f : Frame) (us vs : List Value) (cs : List ℕ) (b : Bound (ports N) done f us vs cs) (qs : List Quantifier) where
    abbrev next_body : Body
    next_body = close (with_set f) qs (body c)

    next_rooted : Rooted next_body
    next_rooted = close_rooted qs (with_set f) (body c) (body_rooted c sorted)

    set_says : (some : Bool) → Says f (set_q some ∷ qs) us → (ls : List ℕ) → length ls ≡ dbl f.regions → (more : List Value)
        → matrix (ports N) (emission c) ((us ++ counts_of ls) ++ more) ≡ guarded some (splits f.regions cs ls) (says (ports N) ((us ++ counts_of ls) ++ more) next_body)
    unfolding close
    set_says some h ls l more =
        more_says f (set_q some ∷ qs) us (counts_of ls) h more
        ∙ says-join (ports N) ((us ++ counts_of ls) ++ more) f b.some some next_body next_rooted
        ∙ ap (λ t. guarded some t (says (ports N) ((us ++ counts_of ls) ++ more) next_body)) (held_is (ports N) done f us vs cs b ls l more)

    split_long : (ls : List ℕ) → Split cs ls → length ls ≡ dbl f.regions
    split_long ls s = split_doubles cs ls s ∙ ap dbl b.long

    split_passes : (ls : List ℕ) → Split cs ls → splits f.regions cs ls ≡ true
    split_passes ls s = splits_make f.regions cs ls b.long s

    split_good : (ls : List ℕ) → length ls ≡ dbl f.regions → splits f.regions cs ls ≡ true → Split cs ls
    split_good ls l e = splits_true f.regions cs ls b.long l e

  reduction : (qs done : List Quantifier) (f : Frame) (us vs : List Value) (cs : List ℕ) → Bound (ports N) done f us vs cs
      → done ++ qs ≡ c.quantifiers → inside_all f qs ≡ inside_all start c.quantifiers → Says f qs us
      → Inner N (emission c) (emit_quantifiers f qs) us ↔ HoldsR c qs vs cs
  unfolding emit_quantifiers becomes close inside_all
  reduction [] done f us vs cs b d i h = let e = innermost done f us vs cs b d i h in (λ t. sym e ∙ t, λ t. e ∙ t)
  reduction (int_q some ∷ qs) done f us vs cs b d i h =
      quantified_same some (λ k. reduction qs (done ++ int_q some ∷ []) (with_number f) (us ++ num k ∷ []) (vs ++ num k ∷ []) cs
      (bound_number (ports N) done f us vs cs b (int_q some) k) (append_assoc done (int_q some ∷ []) qs ∙ d) i (more_says (with_number f) qs us (num k ∷ []) h))
  reduction (set_q some ∷ qs) done f us vs cs b d i h =
      one_set N (emission c) (dbl f.regions) (emit_quantifiers (with_set f) qs) (no_sets_emit qs (with_set f)) us (λ ws. says (ports N) ws (close (with_set f) qs (body c)))
      (splits f.regions cs) (Split cs) (HoldsR c qs (grow vs))
      (split_long done f us vs cs b qs) (split_passes done f us vs cs b qs) (split_good done f us vs cs b qs) some
      (λ ls s t. reduction qs (done ++ set_q some ∷ []) (with_set f) (us ++ counts_of ls) (grow vs) ls
      (bound_set (ports N) done f us vs cs b (set_q some) refl ls s) (append_assoc done (set_q some ∷ []) qs ∙ d) i t)
      (set_says done f us vs cs b qs some h)
  reduction (count_q some ∷ qs) done f us vs cs b d i h =
      quantified_same some (λ k. reduction qs (done ++ count_q some ∷ []) (with_number f) (us ++ num (pos k) ∷ []) (vs ++ num (pos k) ∷ []) cs
      (bound_number (ports N) done f us vs cs b (count_q some) (pos k)) (append_assoc done (count_q some ∷ []) qs ∙ d) i (more_says (with_number f) qs us (num (pos k) ∷ []) h))

  -- over region counts
  pub emission_counts : TrueAt N (emission c) ↔ TrueAtR N c
  unfolding emission matrix says
  emission_counts = reduction c.quantifiers [] start [] [] (N ∷ []) (bound_start (ports N)) refl refl (λ more. refl)

  pub truth_kept : TrueAt N (emission c) ↔ TrueAt N c
  truth_kept = Iff.trans emission_counts (Iff.symm (theorem_a N c))

-- The same of words, as the code reads and writes them.
pub words_kept : (N : ℕ) (ws : List ℤ) → WellSorted (claim_of ws) → TrueAt N (claim_of (words_of (emission (claim_of ws)))) ↔ TrueAt N (claim_of ws)
words_kept N ws h = rw (claim_words (emission (claim_of ws))) (truth_kept N (claim_of ws) h)
