-- Count quantifiers in a row are one quantifier over lists of counts. With a constraint joined to what they bind, they are one over the lists that meet it.
-- Assumes nothing.
use mathlib.Core.Path.{◌≡◌, refl, sym, ◌∙◌, ap, subst}
use mathlib.Core.Logic.Iff
use mathlib.Core.Logic.{◌↔◌}
use mathlib.Core.Bool.{Bool, true, false, not, false≢true}
use mathlib.Core.List.{List, [], ◌∷◌, ◌++◌, append_assoc, append-nil}
use Prim.Native.Nat.{ℕ, zero, suc}
use native.Mathlib.Omega.{arith}
use lib.IntN.{pos}
use lib.ListN.{length, replicate}
use Rattle.checker.specs.Claim.{Quantifier, Claim, int_q, set_q, count_q}
use Rattle.checker.specs.Sorts.{sets}
use Rattle.checker.specs.Meaning.{Value, matrix, ports, Quantified, Holds, Subset, num}
use Rattle.region.proofs.Quantified.{quantified, quantified_same, quantified_any, quantified_pair}
use Rattle.reducer.proofs.Bodies.{guarded}
use Rattle.reducer.proofs.Bindings.{counts_of}

-- m counts
abbrev Counts : ℕ → Type 0
Counts m = (ls : List ℕ) × (length ls ≡ m)

uncons : (m : ℕ) (ls : List ℕ) → length ls ≡ suc m → ℕ × Counts m
uncons m [] e = absurd (omega arith)
uncons m (l ∷ ls) e = (l, (ls, omega arith))

module _ (N : ℕ) (c : Claim) where
  -- the claim, inside quantifiers that are bound already
  abbrev pub Inner : List Quantifier → List Value → Type 0
  Inner qs us = Holds (Subset N) (λ s. s.members) N c qs us

  moved : (qs : List Quantifier) {us vs : List Value} → us ≡ vs → Inner qs us ↔ Inner qs vs
  moved qs e = (subst (Inner qs) e, subst (Inner qs) (sym e))

  block : (some : Bool) (m : ℕ) (qs : List Quantifier) (us : List Value)
      → Inner (replicate m (count_q some) ++ qs) us ↔ Quantified some (Counts m) (λ x. Inner qs (us ++ counts_of x.0))
  unfolding uncons
  block some zero qs us = Iff.symm (quantified_any some ([], refl) (λ x. none x.0 x.1))
    where
      none : (ls : List ℕ) → length ls ≡ 0 → Inner qs (us ++ counts_of ls) ↔ Inner qs us
      none [] e = moved qs (append-nil us)
      none (l ∷ ls) e = absurd (omega arith)
  block some (suc m) qs us =
      Iff.trans (quantified_same some (λ k. block some m qs (us ++ num (pos k) ∷ [])))
      (Iff.trans (quantified_pair some ℕ (Counts m) (λ k x. Inner qs ((us ++ num (pos k) ∷ []) ++ counts_of x.0)))
      (quantified some (λ x. (x.0 ∷ x.1.0, ap suc x.1.1)) (λ x. uncons m x.0 x.1) (λ x. joins x.0 x.1.0) (λ x. parts x.0 x.1)))
    where
      joins : (k : ℕ) (ls : List ℕ) → Inner qs ((us ++ num (pos k) ∷ []) ++ counts_of ls) ↔ Inner qs (us ++ counts_of (k ∷ ls))
      joins k ls = moved qs (append_assoc us (num (pos k) ∷ []) (counts_of ls))

      parts : (ls : List ℕ) (e : length ls ≡ suc m)
          → Inner qs ((us ++ num (pos (uncons m ls e).0) ∷ []) ++ counts_of (uncons m ls e).1.0) ↔ Inner qs (us ++ counts_of ls)
      parts [] e = absurd (omega arith)
      parts (l ∷ ls) e = joins l ls

  -- a matrix that says t whatever the quantifiers' values
  abbrev pub Always : Bool → List Value → Type 0
  Always t us = (more : List Value) → matrix (ports N) c (us ++ more) ≡ t

  one_more : {t : Bool} (us : List Value) (v : Value) → Always t us → Always t (us ++ v ∷ [])
  one_more us v h more = rw append_assoc (h (v ∷ more))

  constant : (t : Bool) (qs : List Quantifier) → sets qs ≡ 0 → (us : List Value) → Always t us → Inner qs us ↔ (t ≡ true)
  unfolding sets
  constant t [] n us h = let e : matrix (ports N) c us ≡ t = rw append-nil at (h []) in (λ p. sym e ∙ p, λ p. e ∙ p)
  constant t (int_q some ∷ qs) n us h = quantified_any some (pos 0) (λ k. constant t qs n _ (one_more us (num k) h))
  constant t (set_q some ∷ qs) n us h = absurd (omega arith)
  constant t (count_q some ∷ qs) n us h = quantified_any some 0 (λ k. constant t qs n _ (one_more us (num (pos k)) h))

-- ---- choices that meet a test

-- Lists that fail the test may be left out: they say what a quantifier over nothing says.
met : (some : Bool) (m : ℕ) {Good P X : List ℕ → Type 0} (test : List ℕ → Bool)
    → ((ls : List ℕ) → Good ls → length ls ≡ m) → ((ls : List ℕ) → length ls ≡ m → test ls ≡ true → Good ls)
    → ((ls : List ℕ) → Good ls → P ls ↔ X ls) → ((ls : List ℕ) → length ls ≡ m → test ls ≡ false → P ls ↔ (not some ≡ true))
    → Quantified some (Counts m) (λ x. P x.0) ↔ Quantified some ((ls : List ℕ) × Good ls) (λ x. X x.0)
met true m {Good} {P} {X} test long good same idle = (
  λ t. go t.0.0 t.0.1 t.1 (test t.0.0) refl,
  λ t. ((t.0.0, long t.0.0 t.0.1), (same t.0.0 t.0.1).1 t.1),
)
  where
    go : (ls : List ℕ) → length ls ≡ m → P ls → (b : Bool) → test ls ≡ b → (x : (ls : List ℕ) × Good ls) × X x.0
    go ls l p true e = let g = good ls l e in ((ls, g), (same ls g).0 p)
    go ls l p false e = absurd (false≢true ((idle ls l e).0 p))
met false m {Good} {P} {X} test long good same idle =
    (λ t x. (same x.0 x.1).0 (t (x.0, long x.0 x.1)), λ t x. go t x.0 x.1 (test x.0) refl)
  where
    go : ((x : (ls : List ℕ) × Good ls) → X x.0) → (ls : List ℕ) → length ls ≡ m → (b : Bool) → test ls ≡ b → P ls
    go t ls l true e = let g = good ls l e in (same ls g).1 (t (ls, g))
    go t ls l false e = (idle ls l e).1 refl

guarded_true : (some b : Bool) → guarded some true b ≡ b
guarded_true true b = refl
guarded_true false b = refl

guarded_false : (some b : Bool) → guarded some false b ≡ not some
guarded_false true b = refl
guarded_false false b = refl

-- One set: m count quantifiers with a constraint, which is a test of the counts.
module _ (N : ℕ) (out : Claim) (m : ℕ) (rest : List Quantifier) (free : sets rest ≡ 0) (us : List Value) (inner : List Value → Bool) (test : List ℕ → Bool)
    (Good X : List ℕ → Type 0) (long : (ls : List ℕ) → Good ls → length ls ≡ m) (passes : (ls : List ℕ) → Good ls → test ls ≡ true)
    (good : (ls : List ℕ) → length ls ≡ m → test ls ≡ true → Good ls) where
  -- the matrix at counts ls, whatever the inner quantifiers' values: what `says` makes of the test and of what is inside
  abbrev pub At : (Bool → Bool → Bool) → List ℕ → Type 0
  At makes ls = (more : List Value) → matrix (ports N) out ((us ++ counts_of ls) ++ more) ≡ makes (test ls) (inner ((us ++ counts_of ls) ++ more))

  -- where the counts are good, the constraint can be left out
  pub one_set : (some : Bool) → ((ls : List ℕ) → Good ls → At (λ t b. b) ls → Inner N out rest (us ++ counts_of ls) ↔ X ls)
      → ((ls : List ℕ) → length ls ≡ m → At (guarded some) ls)
      → Inner N out (replicate m (count_q some) ++ rest) us ↔ Quantified some ((ls : List ℕ) × Good ls) (λ x. X x.0)
  one_set some next at =
      Iff.trans (block N out some m rest us)
      (met some m test long good (λ ls g. next ls g (left ls g)) (λ ls l e. constant N out (not some) rest free (us ++ counts_of ls) (idle ls l e)))
    where
      left : (ls : List ℕ) → Good ls → At (λ t b. b) ls
      left ls g more = at ls (long ls g) more ∙ ap (λ t. guarded some t (inner ((us ++ counts_of ls) ++ more))) (passes ls g) ∙ guarded_true some _

      idle : (ls : List ℕ) → length ls ≡ m → test ls ≡ false → Always N out (not some) (us ++ counts_of ls)
      idle ls l e more = at ls l more ∙ ap (λ t. guarded some t (inner ((us ++ counts_of ls) ++ more))) e ∙ guarded_false some _
