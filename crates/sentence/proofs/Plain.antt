-- A well-sorted claim none of whose nodes is a set speaks of no sets at all: so the reducer's emission has a sentence.
-- Assumes nothing.
use mathlib.Core.Path.{◌≡◌, refl, sym, ap, ◌∙◌}
use mathlib.Core.Bool.{true, false, true≢false}
use mathlib.Core.List.{List, [], ◌∷◌, ◌++◌, append_assoc}
use Prim.Native.Nat.{ℕ}
use lib.ListN.{length, get_or, get_or-append}
use lib.Seq.{get_or-append_seam}
use Rattle.checker.specs.declared.Sort.TheVariants.{ASet}
use Rattle.checker.specs.Claim.{Node, set_var, empty, whole, union, inter, compl, num_var, const, maxc, sum, diff, multiple, card, equal, less, divided, set_equal, subset, conj, disj, neg, unknown, Quantifier, Claim}
use Rattle.checker.specs.Kinds.{is_set}
use Rattle.checker.specs.Sorts.{sort, sets, Is, Fits, AllFit, WellSorted}
use Rattle.sentence.specs.Sentences.{plain, AllPlain, Plain}

-- no node is a set
abbrev NoSets : List Node → Type 0
NoSets ns = (i : ℕ) → is_set (sort (get_or ns i unknown)) ≡ false

module _ (qs : List Quantifier) (done : List Node) (none : (a : ℕ) → Is ASet done a → ⊥) where
  fits_plain : (n : Node) → is_set (sort n) ≡ false → Fits qs done n → plain n ≡ true
  fits_plain (set_var q) s h = absurd (true≢false s)
  fits_plain empty s h = absurd (true≢false s)
  fits_plain whole s h = absurd (true≢false s)
  fits_plain (union x y) s h = absurd (true≢false s)
  fits_plain (inter x y) s h = absurd (true≢false s)
  fits_plain (compl x) s h = absurd (true≢false s)
  fits_plain (num_var q) s h = refl
  fits_plain (const c) s h = refl
  fits_plain maxc s h = refl
  fits_plain (sum x y) s h = refl
  fits_plain (diff x y) s h = refl
  fits_plain (multiple c y) s h = refl
  fits_plain (card x) s h = absurd (none x h)
  fits_plain (equal x y) s h = refl
  fits_plain (less x y) s h = refl
  fits_plain (divided c y) s h = refl
  fits_plain (set_equal x y) s h = absurd (none x h.0)
  fits_plain (subset x y) s h = absurd (none x h.0)
  fits_plain (conj x y) s h = refl
  fits_plain (disj x y) s h = refl
  fits_plain (neg x) s h = refl
  fits_plain unknown s h = absurd h

all_plain : (qs : List Quantifier) (ns done : List Node) → NoSets (done ++ ns) → AllFit qs done ns → AllPlain ns
all_plain qs [] done h f = tt
all_plain qs (n ∷ ns) done h (f, fs) = (
  fits_plain qs done none n (rw (get_or-append_seam done n ns unknown) at (h (length done))) f,
  all_plain qs ns (done ++ n ∷ []) (rw (append_assoc done (n ∷ []) ns) h) fs,
)
  where
    none : (a : ℕ) → Is ASet done a → ⊥
    none a (l, e) = true≢false (sym (ap is_set e) ∙ (rw (get_or-append done (n ∷ ns) unknown a l) at (h a)))

pub plain_claim : (c : Claim) → WellSorted c → NoSets c.nodes → sets c.quantifiers ≡ 0 → Plain c
plain_claim c h s q = record { nodes = all_plain c.quantifiers c.nodes [] s h.0; quantifiers = q }
