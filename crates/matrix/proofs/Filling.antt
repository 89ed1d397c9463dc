-- The table of patterns, filled entry by entry: what is stored for a node is its entry. Assumes nothing.
use mathlib.Core.Path.{◌≡◌, refl, sym, ap, ◌∙◌}
use mathlib.Core.Bool.{Bool, true, false, ◌&&◌, false≢true}
use mathlib.Core.List.{List}
use Prim.Native.Nat.{ℕ, ◌+◌, ◌*◌, ◌^◌, ◌<◌}
use native.Mathlib.Omega.{arith}
use borrow.Author.Tests.{eqb-true, eqb-false}
use lib.Dec.{ltb, eqb}
use lib.IntN.{ℤ}
use lib.ListN.{length, get_or, take, drop}
use lib.Seq.{get_or-take, length-take-le}
use Rattle.std.specs.Prelude.{Some}
use Rattle.checker.specs.declared.Shape.{Shape}
use Rattle.checker.specs.declared.Sort.TheVariants.{ASet}
use Rattle.checker.specs.Claim.{Node, set_var, empty, whole, union, inter, compl, num_var, const, maxc, sum, diff, multiple, card, equal, less, divided, set_equal, subset, conj, disj, neg, unknown, Claim}
use Rattle.checker.specs.Kinds.{is_set}
use Rattle.checker.specs.Words.{word_at, node_at, claim_of}
use Rattle.checker.specs.Sorts.{sort, sets, Is, Fits}
use Rattle.checker.specs.Meaning.{Set, Value, truth, as_set, set_at, World, value_of}
use Rattle.region.specs.Pattern.{covers, covers_at, Put}
use Rattle.region.proofs.Pattern.{words_same}
use Rattle.matrix.specs.Final.{final_values}
use Rattle.matrix.specs.Entry.{entry_of, node_values, Filled, Next}
use Rattle.matrix.proofs.Known.{value_at}
use Rattle.checker.proofs.Claims.{node_at_lem, Sound, sound}
use Rattle.checker.proofs.Fitting.{fits_at}
use Rattle.matrix.proofs.Positions.{final_covers}
use Rattle.matrix.proofs.Kindwise.{two_sets, one_set, two_in, one_in, set_in, entry_by, entry_in_lem}

-- ---- the entry of a set node is its value

set_entry : (w : World) (qs vs : List Value) (n : Node) → sort n ≡ Some ASet → as_set (value_of w qs vs n) ≡ entry_of qs vs n
unfolding value_of entry_of
set_entry w qs vs (set_var q) e = refl
set_entry w qs vs empty e = refl
set_entry w qs vs whole e = refl
set_entry w qs vs (union a b) e = refl
set_entry w qs vs (inter a b) e = refl
set_entry w qs vs (compl a) e = refl
set_entry w qs vs (num_var q) e = refl
set_entry w qs vs (const c) e = refl
set_entry w qs vs maxc e = refl
set_entry w qs vs (sum a b) e = refl
set_entry w qs vs (diff a b) e = refl
set_entry w qs vs (multiple c b) e = refl
set_entry w qs vs (card a) e = absurd (false≢true (ap is_set e))
set_entry w qs vs (equal a b) e = refl
set_entry w qs vs (less a b) e = refl
set_entry w qs vs (divided c b) e = refl
set_entry w qs vs (set_equal a b) e = absurd (false≢true (ap is_set e))
set_entry w qs vs (subset a b) e = absurd (false≢true (ap is_set e))
set_entry w qs vs (conj a b) e = refl
set_entry w qs vs (disj a b) e = refl
set_entry w qs vs (neg a) e = refl
set_entry w qs vs unknown e = refl

-- ---- node i of accepted words, where the entries of the nodes before it stand

module _ {ws : List ℤ} {s : Shape} {i : ℕ} {patterns : List ℕ} (t : Next ws s i patterns) where
  abbrev c : Claim
  c = claim_of ws

  ok : Sound ws s
  ok = sound ws s t.accepted

  abbrev kind : ℕ
  kind = word_at ws (3 * i)

  abbrev a : ℕ
  a = word_at ws (3 * i + 1)

  abbrev b : ℕ
  b = word_at ws (3 * i + 2)

  abbrev vs : World → List Value
  vs w = take i (node_values w c)

  -- the regions that there are
  abbrev cut : Set
  cut r = ltb r (2 ^ sets c.quantifiers)

  inside : i < length c.nodes
  inside = omega (arith, t.node, ok.nodes)

  fits : Fits c.quantifiers (take i c.nodes) (node_at ws i)
  fits = rw (← node_at_lem ws i inside) (fits_at c.quantifiers c.nodes ok.sorted.0 i inside)

  before : (x : ℕ) → Is ASet (take i c.nodes) x → x < i
  before x f = rw (length-take-le i c.nodes (omega (arith, inside))) at f.0

  -- a set's entry is its value, cut
  covered : (w : World) (x : ℕ) → Is ASet (take i c.nodes) x → (r : ℕ) → covers_at patterns x r ≡ (cut r && set_at (vs w) x r)
  unfolding set_at
  covered w x f r =
      let below : x < i = before x f in
      let is_set_lem : sort (get_or c.nodes x unknown) ≡ Some ASet = rw (get_or-take i c.nodes x unknown below) at f.1 in
      t.filled.entry w x below r
      ∙ ap (λ (v : Set). cut r && v r)
      (sym (set_entry w (final_values c.quantifiers) (take x (node_values w c)) (get_or c.nodes x unknown) is_set_lem)
      ∙ ap as_set (sym (value_at w c x (omega (arith, inside))) ∙ sym (get_or-take i (node_values w c) x (truth false) below)))

  both : two_sets kind ≡ true → Is ASet (take i c.nodes) a × Is ASet (take i c.nodes) b
  unfolding word_at
  both = two_in c.quantifiers (take i c.nodes) _ _ _ fits

  first : one_set kind ≡ true → Is ASet (take i c.nodes) a
  unfolding word_at
  first = one_in c.quantifiers (take i c.nodes) _ _ _ fits

  pub two_before : two_sets kind ≡ true → (a < i) × (b < i)
  two_before k = (before a (both k).0, before b (both k).1)

  pub one_before : one_set kind ≡ true → a < i
  one_before k = before a (first k)

  pub variable_before : kind ≡ 1 → a < s.quantifiers
  unfolding word_at
  variable_before k = omega (arith, ok.quantifiers, (set_in c.quantifiers (take i c.nodes) _ _ _ fits k).0)

  pub two_covered : (w : World) (r : ℕ) → two_sets kind ≡ true → (covers_at patterns a r ≡ (cut r && set_at (vs w) a r)) × (covers_at patterns b r ≡ (cut r && set_at (vs w) b r))
  two_covered w r k = (covered w a (both k).0 r, covered w b (both k).1 r)

  pub one_covered : (w : World) (r : ℕ) → one_set kind ≡ true → covers_at patterns a r ≡ (cut r && set_at (vs w) a r)
  one_covered w r k = covered w a (first k) r

  pub variable_covered : (r : ℕ) → kind ≡ 1 → set_at (final_values c.quantifiers) a r ≡ covers r (sets (drop (a + 1) c.quantifiers))
  unfolding word_at
  variable_covered r k = final_covers c.quantifiers a r (set_in c.quantifiers (take i c.nodes) _ _ _ fits k).1

  -- one entry more
  pub filled_next : (wanted : Set) (after : List ℕ) → Put patterns i wanted after
      → ((w : World) (r : ℕ) → wanted r ≡ (cut r && entry_by (final_values c.quantifiers) (vs w) kind a b r)) → Filled c (i + 1) after
  unfolding word_at
  filled_next wanted after put f = record {
    long = omega (arith, put.long, t.roomy.long);
    room = omega (arith, t.filled.room, words_same patterns after put.long);
    entry = λ w j h r. at w j h r (eqb j i) refl;
  }
    where
      at : (w : World) (j : ℕ) → j < i + 1 → (r : ℕ) (same : Bool) → eqb j i ≡ same
          → covers_at after j r ≡ (cut r && entry_of (final_values c.quantifiers) (take j (node_values w c)) (get_or c.nodes j unknown) r)
      at w j h r true k =
          let z : j ≡ i = eqb-true j i k in
          rw (z, node_at_lem ws i inside, entry_in_lem (final_values c.quantifiers) (vs w)) (put.entry r ∙ f w r)
      at w j h r false k = let z : j ≡ i → ⊥ = eqb-false j i k in put.kept j z r ∙ t.filled.entry w j (omega arith) r
