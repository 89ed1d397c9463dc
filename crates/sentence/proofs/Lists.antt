-- A list with one more element at its end. Assumes nothing.
use mathlib.Core.Path.{◌≡◌, refl, ◌∙◌}
use mathlib.Core.Bool.{cond}
use mathlib.Core.List.{List, [], ◌∷◌, ◌++◌}
use Prim.Native.Nat.{ℕ, zero, suc}
use native.Mathlib.Numerals.{add-one}
use lib.Dec.{eqb, eqb-zero-suc, eqb-suc-zero, eqb-suc-suc}
use lib.ListN.{length, get_or, length-append}

module _ {A : Type 0} where
  pub get_d_snoc : (vs : List A) (v d : A) (j : ℕ) → get_or (vs ++ v ∷ []) j d ≡ cond (eqb (length vs) j) v (get_or vs j d)
  get_d_snoc [] v d zero = refl
  get_d_snoc [] v d (suc j) = rw (eqb-zero-suc j)
  get_d_snoc (u ∷ us) v d zero = rw (eqb-suc-zero (length us))
  get_d_snoc (u ∷ us) v d (suc j) = rw (eqb-suc-suc (length us) j) (get_d_snoc us v d j)

  pub length-snoc : (vs : List A) (v : A) → length (vs ++ v ∷ []) ≡ suc (length vs)
  length-snoc vs v = length-append vs (v ∷ []) ∙ add-one (length vs)
