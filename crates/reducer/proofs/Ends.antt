-- What a run of nodes comes to: the values that it adds, whatever stands before it.
-- Assumes nothing.
use mathlib.Core.Path.{◌≡◌, refl, sym, ◌∙◌, ap, ap₂}
use mathlib.Core.Bool.{Bool, false}
use mathlib.Core.List.{List, [], ◌∷◌, ◌++◌}
use Prim.Native.Nat.{ℕ, ◌+◌, ◌<◌}
use native.Mathlib.Nat.{add-zero}
use native.Mathlib.Omega.{arith}
use lib.IntN.{ℤ, pos, ◌+ℤ◌}
use lib.ListN.{length, get_or, length-append}
use Rattle.checker.specs.Claim.{Node, sum}
use Rattle.checker.specs.Meaning.{Value, as_num, as_truth, num_at, truth_at, World, value_of, values, num, truth}
use Rattle.emission.specs.Emission.{Place, region_node, last, size, counts}
use Rattle.reducer.proofs.Lists.{new_at, old_at}

abbrev pub no_value : Value
no_value = truth false

module _ (w : World) (us : List Value) where
  pub values-append : (vs : List Value) (xs ys : List Node) → values w us vs (xs ++ ys) ≡ values w us (values w us vs xs) ys
  unfolding values
  values-append vs [] ys = refl
  values-append vs (x ∷ xs) ys = values-append (vs ++ value_of w us vs x ∷ []) xs ys

  pub values_length : (vs : List Value) (xs : List Node) → length (values w us vs xs) ≡ length vs + length xs
  unfolding values
  values_length vs [] = sym (add-zero (length vs))
  values_length vs (x ∷ xs) =
      omega (arith, values_length (vs ++ value_of w us vs x ∷ []) xs, length-append vs (value_of w us vs x ∷ []))

  -- what stands stays
  pub values_keep : (vs : List Value) (xs : List Node) (i : ℕ) → i < length vs → get_or (values w us vs xs) i no_value ≡ get_or vs i no_value
  unfolding values
  values_keep vs [] i h = refl
  values_keep vs (x ∷ xs) i h =
      values_keep (vs ++ value_of w us vs x ∷ []) xs i (omega (arith, length-append vs (value_of w us vs x ∷ [])))
      ∙ old_at vs (value_of w us vs x ∷ []) no_value i h

  -- The run `xs`, after the values vs, ends with the value v.
  pub record Ends (vs : List Value) (xs : List Node) (v : Value) : Type 0 where
    pub before : List Value
    pub is : values w us vs xs ≡ before ++ v ∷ []

  pub before-length : {vs : List Value} {xs : List Node} {v : Value} (e : Ends vs xs v) → length e.before + 1 ≡ length vs + length xs
  before-length {vs} {xs} {v} e = omega (arith, ap length e.is, length-append e.before (v ∷ []), values_length vs xs)

  pub ends_at : {vs : List Value} {xs : List Node} {v : Value} → Ends vs xs v → (k : ℕ) → k ≡ length vs
      → get_or (values w us vs xs) (last k xs) no_value ≡ v
  ends_at {vs} {xs} {v} e k h =
      ap (λ l. get_or l (last k xs) no_value) e.is ∙ new_at e.before v no_value (last k xs) (omega (arith, before-length e))

  pub ends_step : {vs : List Value} {n : Node} {ns : List Node} {v : Value} {u : Value} → value_of w us vs n ≡ v → Ends (vs ++ v ∷ []) ns u → Ends vs (n ∷ ns) u
  unfolding values
  ends_step {vs} {n} {ns} {v} e h = record { before = h.before; is = ap (λ x. values w us (vs ++ x ∷ []) ns) e ∙ h.is }

  pub ends_one : {vs : List Value} {n : Node} {v : Value} → value_of w us vs n ≡ v → Ends vs (n ∷ []) v
  unfolding values
  ends_one {vs} e = record { before = vs; is = rw e }

  unfoldable pub ends-append : {vs : List Value} {xs ys : List Node} {v u : Value} (e : Ends vs xs v) → Ends (e.before ++ v ∷ []) ys u → Ends vs (xs ++ ys) u
  ends-append {vs} {xs} {ys} {v} e f = record { before = f.before; is = values-append vs xs ys ∙ ap (λ l. values w us l ys) e.is ∙ f.is }

  -- what stood before a run still stands
  pub ends_keep : {vs : List Value} {xs : List Node} {v : Value} (e : Ends vs xs v) (i : ℕ) → i < length vs
      → get_or (e.before ++ v ∷ []) i no_value ≡ get_or vs i no_value
  ends_keep {vs} {xs} e i h = ap (λ l. get_or l i no_value) (sym e.is) ∙ values_keep vs xs i h

  -- ---- regions

  -- the count of a region
  unfoldable pub amount : Place → ℕ → ℤ
  amount size r = pos w.size
  amount (counts first) r = num_at us (first + r)

  pub region_value : (vs : List Value) (p : Place) (r : ℕ) → value_of w us vs (region_node p r) ≡ num (amount p r)
  unfolding value_of amount
  region_value vs size r = refl
  region_value vs (counts first) r = refl

-- what stands at a place, read as a number or as a truth
pub num_at_lem : (vs : List Value) (i : ℕ) (k : ℤ) → get_or vs i no_value ≡ num k → num_at vs i ≡ k
unfolding num_at
num_at_lem vs i k e = ap as_num e

pub truth_at_lem : (vs : List Value) (i : ℕ) (b : Bool) → get_or vs i no_value ≡ truth b → truth_at vs i ≡ b
unfolding truth_at
truth_at_lem vs i b e = ap as_truth e

pub num_below : (ws us : List Value) (i : ℕ) → i < length ws → num_at (ws ++ us) i ≡ num_at ws i
unfolding num_at
num_below ws us i h = ap as_num (old_at ws us no_value i h)

pub truth_below : (ws us : List Value) (i : ℕ) → i < length ws → truth_at (ws ++ us) i ≡ truth_at ws i
unfolding truth_at
truth_below ws us i h = ap as_truth (old_at ws us no_value i h)

pub sum_value : (w : World) (us vs : List Value) (i j : ℕ) {a b : ℤ} → num_at vs i ≡ a → num_at vs j ≡ b → value_of w us vs (sum i j) ≡ num (a +ℤ b)
unfolding value_of
sum_value w us vs i j e h = ap₂ (λ x y. num (x +ℤ y)) e h
