-- What words hold. Assumes nothing.
use mathlib.Core.Path.{◌≡◌, refl}
use mathlib.Core.Bool.{Bool, true, false, cond, ◌&&◌, and-eq-true_iff}
use mathlib.Core.List.{List, [], ◌∷◌, ◌++◌, map}
use Prim.Native.Nat.{◌≤◌}
use native.Mathlib.Omega.{arith}
use borrow.Author.Tests.{leb-true, le-leb}
use lib.IntN.{ℤ, pos, negsuc, nat_abs}
use mir.Syntax.{w32}
use mir.Val.{SFits}
use Rattle.std.specs.Prelude.{Result, Ok, Err}
use Rattle.std.specs.Result.{OkIff, result_unwrap_or}
use Rattle.checker.specs.Claim.{Node}
use Rattle.checker.specs.Words.{fields_of, node_words, nodes_words}
use Rattle.decimal.specs.Reading.{most_positive}
use Rattle.sentence.specs.Reading.{AllWithin}
use Rattle.scanner.specs.Finds.{most}
use Rattle.reader.specs.Held.{in_word, in_words, held}

-- ---- one number

fits_in : (z : ℤ) → SFits w32 z → in_word z ≡ true
unfolding in_word
fits_in (pos n) f = le-leb n most_positive (omega (arith, f.sfits))
fits_in (negsuc n) f = le-leb n most_positive (omega (arith, f.sfits))

in_fits : (z : ℤ) → in_word z ≡ true → SFits w32 z
unfolding in_word
in_fits (pos n) e = record { sfits = omega (arith, leb-true n most_positive e) }
in_fits (negsuc n) e = record { sfits = omega (arith, leb-true n most_positive e) }

-- what a conversion into a word gives, or else 0
pub held_or_0 : {E : Type 0} (r : Result ℤ E) (z : ℤ) → OkIff r (SFits w32 z) z → result_unwrap_or r (pos 0) ≡ held z
unfolding held
held_or_0 (Ok x) z (f, e) = rw (fits_in z f) e
held_or_0 (Err e) z n = rw (not_true (in_word z) (λ i. n (in_fits z i)))
  where
    not_true : (t : Bool) → (t ≡ true → ⊥) → t ≡ false
    not_true true n = absurd (n refl)
    not_true false n = refl

-- ---- lists

held_in : (z : ℤ) → in_word (held z) ≡ true
unfolding held
held_in z = pick (in_word z) refl
  where
    pick : (t : Bool) → in_word z ≡ t → in_word (cond t z (pos 0)) ≡ true
    pick true e = e
    pick false e = unfold in_word in refl

pub all_held_in : (zs : List ℤ) → in_words (map held zs) ≡ true
unfolding in_words
all_held_in [] = refl
all_held_in (z ∷ zs) = rw (held_in z, all_held_in zs)

pub all_held : (zs : List ℤ) → in_words zs ≡ true → map held zs ≡ zs
unfolding in_words held
all_held [] h = refl
all_held (z ∷ zs) h =
    let (e, f) = (and-eq-true_iff (in_word z) (in_words zs)).0 h in
    rw (e, all_held zs f)

-- ---- the fields of nodes

small : (z : ℤ) → in_word z ≡ true → nat_abs z ≤ most
unfolding in_word
small (pos n) h = omega (arith, leb-true n most_positive h)
small (negsuc n) h = omega (arith, leb-true n most_positive h)

pub fields_small : (ns : List Node) (rest : List ℤ) → in_words (nodes_words ns ++ rest) ≡ true → AllWithin most ns
unfolding in_words nodes_words node_words
fields_small [] rest h = tt
fields_small (n ∷ ns) rest h =
    let (k, f) = (and-eq-true_iff (in_word (pos (fields_of n).kind)) (in_word (fields_of n).a && (in_word (fields_of n).b && in_words (nodes_words ns ++ rest)))).0 h in
    let (a, g) = (and-eq-true_iff (in_word (fields_of n).a) (in_word (fields_of n).b && in_words (nodes_words ns ++ rest))).0 f in
    let (b, l) = (and-eq-true_iff (in_word (fields_of n).b) (in_words (nodes_words ns ++ rest))).0 g in
    (small (fields_of n).a a, small (fields_of n).b b, fields_small ns rest l)
