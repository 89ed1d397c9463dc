-- Well-sorted claims, node by node, and their sets, quantifier by quantifier. Assumes nothing.
use mathlib.Core.Path.{◌≡◌, refl, sym, ◌∙◌, ap, ap₂}
use mathlib.Core.Bool.{Bool, true, cond}
use mathlib.Core.List.{List, [], ◌∷◌, ◌++◌, append_assoc, append-nil}
use Prim.Native.Nat.{ℕ, zero, suc, ◌+◌, ◌≤◌, ◌<◌}
use native.Mathlib.Omega.{arith}
use lib.ListN.{length, get_or, take}
use lib.Seq.{take-suc, take-length}
use Rattle.checker.specs.Claim.{Node, set_var, empty, whole, union, inter, compl, num_var, const, maxc, sum, diff, multiple, card, equal, less, divided, set_equal, subset, conj, disj, neg, unknown, Quantifier, int_q, set_q, count_q}
use Rattle.checker.specs.Kinds.{sort_of}
use Rattle.checker.specs.Words.{fields_of}
use Rattle.checker.specs.Sorts.{sort, is_set_q, Fits, AllFit, sets}
use Rattle.checker.specs.Search.{count}

-- ---- nodes

-- a node's sort is that of its kind
pub sort_kind : (n : Node) → sort n ≡ sort_of (fields_of n).kind
unfolding sort_of
sort_kind (set_var q) = refl
sort_kind empty = refl
sort_kind whole = refl
sort_kind (union a b) = refl
sort_kind (inter a b) = refl
sort_kind (compl a) = refl
sort_kind (num_var q) = refl
sort_kind (const c) = refl
sort_kind maxc = refl
sort_kind (sum a b) = refl
sort_kind (diff a b) = refl
sort_kind (multiple c b) = refl
sort_kind (card a) = refl
sort_kind (equal a b) = refl
sort_kind (less a b) = refl
sort_kind (divided c b) = refl
sort_kind (set_equal a b) = refl
sort_kind (subset a b) = refl
sort_kind (conj a b) = refl
sort_kind (disj a b) = refl
sort_kind (neg a) = refl
sort_kind unknown = refl

-- node i fits after those before it
fits_after : (qs : List Quantifier) (done ns : List Node) → AllFit qs done ns → (i : ℕ) → i < length ns → Fits qs (done ++ take i ns) (get_or ns i unknown)
fits_after qs done [] f i h = absurd (omega arith)
fits_after qs done (n ∷ ns) (f, fs) zero h = rw (append-nil done) f
fits_after qs done (n ∷ ns) (f, fs) (suc i) h =
    rw (append_assoc done (n ∷ []) (take i ns)) at (fits_after qs (done ++ n ∷ []) ns fs i (omega arith))

pub fits_at : (qs : List Quantifier) (ns : List Node) → AllFit qs [] ns → (i : ℕ) → i < length ns → Fits qs (take i ns) (get_or ns i unknown)
fits_at qs ns f i h = fits_after qs [] ns f i h

-- ---- quantifiers

sets-snoc : (qs : List Quantifier) (q : Quantifier) → sets (qs ++ q ∷ []) ≡ sets qs + cond (is_set_q q) 1 0
unfolding sets
sets-snoc [] (int_q some) = refl
sets-snoc [] (set_q some) = refl
sets-snoc [] (count_q some) = refl
sets-snoc (int_q some ∷ qs) q = sets-snoc qs q
sets-snoc (set_q some ∷ qs) q = omega (arith, sets-snoc qs q)
sets-snoc (count_q some ∷ qs) q = sets-snoc qs q

-- a test that tells set quantifiers counts the sets
module _ (p : ℕ → Bool) (qs : List Quantifier) (h : (i : ℕ) → i < length qs → p i ≡ is_set_q (get_or qs i (int_q true))) where
  upto : (k : ℕ) → k ≤ length qs → count p k ≡ sets (take k qs)
  unfolding count sets
  upto zero l = refl
  upto (suc k) l =
      ap₂ (λ x b. x + cond b 1 0) (upto k (omega arith)) (h k (omega arith))
      ∙ sym (ap sets (take-suc qs k (int_q true) (omega arith)) ∙ sets-snoc (take k qs) (get_or qs k (int_q true)))

  pub counted : count p (length qs) ≡ sets qs
  counted = upto (length qs) (omega arith) ∙ ap sets (take-length qs)
