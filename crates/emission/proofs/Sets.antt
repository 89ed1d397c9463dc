-- The pattern of a set node, kind by kind.
-- Assumes nothing.
use mathlib.Core.Path.{◌≡◌, refl, sym, ap, ap₂, ◌∙◌, fun_ext}
use mathlib.Core.Bool.{Bool, true, false, cond, not, ◌&&◌, ◌||◌}
use mathlib.Core.List.{List, ◌∷◌}
use Prim.Native.Nat.{ℕ, suc, ◌+◌, ◌*◌, ◌^◌, ◌≤◌, ◌<◌}
use native.Mathlib.Nat.{sub-zero}
use native.Mathlib.Omega.{arith}
use lib.Dec.{ltb}
use lib.IntN.{ℤ}
use lib.ListN.{get_or, take, drop}
use Rattle.std.specs.Prelude.{Some, None}
use Rattle.checker.specs.declared.Shape.{Shape}
use Rattle.checker.specs.declared.Sort.TheVariants.{ASet, ATerm, AFormula}
use Rattle.checker.specs.Claim.{Node, set_var, empty, whole, union, inter, compl, Quantifier, int_q, set_q, count_q}
use Rattle.checker.specs.Kinds.{within, sort_of}
use Rattle.checker.specs.Words.{word_at, claim_of}
use Rattle.checker.specs.Sorts as Sorts
use Rattle.checker.specs.Sorts.{Is, is_set_q, Binds}
use Rattle.checker.specs.Meaning.{Set}
use Rattle.checker.proofs.Fitting.{sort_kind}
use Rattle.checker.proofs.Sorts.{above}
use Rattle.region.specs.Regions.{minus, covered}
use Rattle.region.specs.Pattern.{covers, word_bits, entries, room_in, covers_at, regions_from, Put}
use Rattle.region.proofs.Pattern.{words_same}
use Rattle.emission.specs.declared.Frame as code
use Rattle.emission.specs.Emission.{none, start, inside_all, pattern_of}
use Rattle.emission.specs.Plan.{frame_at}
use Rattle.emission.specs.Runs.{frame_of, emitted_to, Patterned, Ready, without, Spared}
use Rattle.emission.proofs.Steps.{next_dropped, cover_at, cover_bit}
use Rattle.emission.proofs.Claims.{kind_is, child_is}
use Rattle.emission.proofs.Frames.{sets_front, regions_are}
use Rattle.emission.proofs.Ready.{known, inside_claim, here, of_its_kind, fitting, kind_some}
use Rattle.emission.proofs.Walk.{patterned_next}

-- ---- cutting

or_cut : (l x y : Bool) → ((l && x) || (l && y)) ≡ (l && (x || y))
or_cut true x y = refl
or_cut false x y = refl

and_cut : (l x y : Bool) → ((l && x) && (l && y)) ≡ (l && (x && y))
and_cut true x y = refl
and_cut false x y = refl

not_cut : (l x : Bool) → (l && not (l && x)) ≡ (l && not x)
not_cut true x = refl
not_cut false x = refl

none_cut : (l : Bool) → false ≡ (l && false)
none_cut true = refl
none_cut false = refl

all_cut : (l : Bool) → l ≡ (l && true)
all_cut true = refl
all_cut false = refl

-- ---- the bit of a set variable

one_more : (q : Quantifier) (qs : List Quantifier) → is_set_q q ≡ true → Sorts.sets (q ∷ qs) ≡ suc (Sorts.sets qs)
unfolding Sorts.sets
one_more (int_q some) qs e = let z : ◌≡◌ {A = ℕ} 0 1 = cc in absurd (omega arith)
one_more (set_q some) qs e = refl
one_more (count_q some) qs e = let z : ◌≡◌ {A = ℕ} 0 1 = cc in absurd (omega arith)

-- the sets outside quantifier q, itself, and those inside it
pub sets_around : (qs : List Quantifier) (q : ℕ) → Binds true qs q → Sorts.sets qs ≡ Sorts.sets (take q qs) + suc (Sorts.sets (drop (q + 1) qs))
sets_around qs q b =
    omega (
      arith,
      sets_front q qs,
      ap Sorts.sets (next_dropped qs (int_q true) q b.0),
      one_more (get_or qs q (int_q true)) (drop (q + 1) qs) b.1,
    )

covers_bit : (q : Quantifier) (k r : ℕ) → is_set_q q ≡ true → cover_at q k r ≡ covers r k
unfolding covers
covers_bit (int_q some) k r e = let z : ◌≡◌ {A = ℕ} 0 1 = cc in absurd (omega arith)
covers_bit (set_q some) k r e = refl
covers_bit (count_q some) k r e = let z : ◌≡◌ {A = ℕ} 0 1 = cc in absurd (omega arith)

bit_is : (qs : List Quantifier) (q k r : ℕ) → Binds true qs q → k ≡ Sorts.sets (drop (q + 1) qs) → get_or (inside_all start qs).covers q none r ≡ covers r k
bit_is qs q k r b e =
    ap (λ (w : Set). w r) (cover_bit qs q (int_q true) b.0) ∙ covers_bit (get_or qs q (int_q true)) _ r b.1 ∙ ap (covers r) (sym e)

-- ---- the entries of other nodes

apart : (b c : Bool) → cond b (Some ATerm) (cond c (Some AFormula) None) ≡ Some ASet → ⊥
apart true c e = let z : ◌≡◌ {A = ℕ} 0 1 = cc in absurd (omega arith)
apart false true e = let z : ◌≡◌ {A = ℕ} 0 1 = cc in absurd (omega arith)
apart false false e = let z : ◌≡◌ {A = ℕ} 0 1 = cc in absurd (omega arith)

no_set : (k : ℕ) → 6 < k → sort_of k ≡ Some ASet → ⊥
unfolding sort_of
no_set k h e = apart (within 10 16 k) (within 20 27 k) (rw (above 1 6 k h) at e)

-- a node above the sets leaves the patterns as they are, but for its own entry
pub spared_next : {ws : List ℤ} {shape : Shape} {plan patterns after : List ℕ} {i : ℕ} → Ready ws shape plan i → Patterned (claim_of ws) patterns i
    → Spared patterns i after → 6 < word_at ws (3 * i) → Patterned (claim_of ws) after (i + 1)
spared_next {ws} {i = i} ready patterned s h =
    patterned_next (claim_of ws) i (inside_claim ready) patterned s.long s.kept
    (λ e. absurd (no_set (word_at ws (3 * i)) h (ap sort_of (kind_is (known ready) i ready.here) ∙ sym (sort_kind (here ready)) ∙ e)))

pub spared_none : (patterns : List ℕ) (i : ℕ) → Spared patterns i patterns
spared_none patterns i = record { long = refl; kept = λ j n r. refl }

pub spared_then : {before between after : List ℕ} {i : ℕ} → Spared before i between → Spared between i after → Spared before i after
spared_then s t = record { long = t.long ∙ s.long; kept = λ j n r. t.kept j n r ∙ s.kept j n r }

-- ---- the difference of two entries

pub difference_regions : {before after : List ℕ} {i : ℕ} (a b : ℕ) → Put before i (minus (covers_at before a) (covers_at before b)) after
    → regions_from after i 0 ≡ without before a b
unfolding regions_from without
difference_regions {before} {after} a b put =
    rw (sub-zero (room_in after)) (ap₂ (λ (w : ℕ) (x : Set). covered 0 (word_bits * w) x) (words_same before after put.long) (fun_ext put.entry))

pub without_spared : {before after : List ℕ} {i : ℕ} (a b : ℕ) → Spared before i after → (a ≡ i → ⊥) → (b ≡ i → ⊥) → without after a b ≡ without before a b
unfolding without
without_spared {before} {after} a b s m n =
    ap₂ (λ (w : ℕ) (x : Set). covered 0 (word_bits * w) x) (words_same before after s.long)
    (fun_ext (λ r. ap₂ (λ x y. x && not y) (s.kept a m r) (s.kept b n r)))

-- ---- the kinds

module _ {ws : List ℤ} {shape : Shape} {plan patterns : List ℕ} {i : ℕ} (ready : Ready ws shape plan i) (patterned : Patterned (claim_of ws) patterns i) where
  abbrev covering : ℕ → Set
  covering a = get_or (emitted_to (claim_of ws) i).patterns a none

  abbrev a : ℕ
  a = word_at ws (3 * i + 1)

  abbrev b : ℕ
  b = word_at ws (3 * i + 2)

  abbrev inside : ℕ → Bool
  inside r = ltb r (frame_of (claim_of ws)).regions

  -- entry i is there, and there is room for the regions of all sets
  pub entry_here : i < entries patterns
  entry_here = omega (arith, ready.here, patterned.long, (known ready).nodes)

  pub sets_room : 2 ^ shape.sets ≤ room_in patterns
  sets_room = rw (regions_are (claim_of ws).quantifiers, ← (known ready).sets) at patterned.room

  -- what is known of a child that is a set
  pub record SetChild (x : ℕ) : Type 0 where
    pub before : x < i
    pub entry : x < entries patterns
    pub covers : (r : ℕ) → covers_at patterns x r ≡ (inside r && covering x r)

  pub set_child : (x : ℕ) → Is ASet (take i (claim_of ws).nodes) x → SetChild x
  set_child x f =
      let n = (known ready).nodes in
      let child = child_is (claim_of ws).nodes i x (omega (arith, ready.here)) f in
      record {
        before = child.0;
        entry = omega (arith, child.0, ready.here, patterned.long);
        covers = patterned.covers x child.0 child.1;
      }

  next_set : (n : Node) {w : Set} {after : List ℕ} → here ready ≡ n → Put patterns i w after
      → ((r : ℕ) → w r ≡ (inside r && pattern_of (frame_of (claim_of ws)) covering n r)) → Patterned (claim_of ws) after (i + 1)
  next_set n e put h =
      patterned_next (claim_of ws) i (omega (arith, ready.here, (known ready).nodes)) (patterned) put.long put.kept
      (λ s r. put.entry r ∙ h r ∙ ap (λ n. inside r && pattern_of (frame_of (claim_of ws)) covering n r) (sym e))

  pub variable_child : word_at ws (3 * i) ≡ 1 → Binds true (claim_of ws).quantifiers a
  unfolding word_at
  variable_child e = fitting ready (set_var a) (of_its_kind ready 1 e)

  -- how many sets are outside the variable's quantifier, noted in the plan
  pub level_at : {f : code.Frame} {q : ℕ} → word_at ws (3 * i) ≡ 1 → q ≡ a → f ≡ frame_at plan q
      → Sorts.sets (claim_of ws).quantifiers ≡ f.level + suc (Sorts.sets (drop (a + 1) (claim_of ws).quantifiers))
  level_at {f} {q} e h g =
      let bound = variable_child e in
      let level : f.level ≡ Sorts.sets (take a (claim_of ws).quantifiers) = rw (g, h) (ready.planned.says a (omega (arith, bound.0))).level in
      omega (arith, level, sets_around (claim_of ws).quantifiers a bound)

  pub some_sets : word_at ws (3 * i) ≡ 1 → 1 ≤ shape.sets
  some_sets e = omega (arith, (known ready).sets, sets_around (claim_of ws).quantifiers a (variable_child e))

  cut : (r : ℕ) → ltb r (2 ^ shape.sets) ≡ inside r
  cut r = rw (regions_are (claim_of ws).quantifiers, ← (known ready).sets)

  pub set_variable : {after : List ℕ} (k : ℕ) → word_at ws (3 * i) ≡ 1 → k ≡ Sorts.sets (drop (a + 1) (claim_of ws).quantifiers)
      → Put patterns i (λ r. ltb r (2 ^ shape.sets) && covers r k) after → Patterned (claim_of ws) after (i + 1)
  unfolding word_at pattern_of
  set_variable k e bit put =
      next_set (set_var a) (of_its_kind ready 1 e) put
      (λ r. ap₂ (λ x y. x && y) (cut r) (sym (bit_is (claim_of ws).quantifiers a k r (variable_child e) bit)))

  pub set_empty : {after : List ℕ} → word_at ws (3 * i) ≡ 2 → Put patterns i (λ r. false) after → Patterned (claim_of ws) after (i + 1)
  unfolding pattern_of
  set_empty e put = next_set empty (of_its_kind ready 2 e) put (λ r. none_cut (inside r))

  pub set_whole : {after : List ℕ} → word_at ws (3 * i) ≡ 3 → Put patterns i (λ r. ltb r (2 ^ shape.sets)) after → Patterned (claim_of ws) after (i + 1)
  unfolding pattern_of
  set_whole e put = next_set whole (of_its_kind ready 3 e) put (λ r. cut r ∙ all_cut (inside r))

  pub union_children : word_at ws (3 * i) ≡ 4 → SetChild a × SetChild b
  unfolding word_at
  union_children e = let f = fitting ready (union a b) (of_its_kind ready 4 e) in (set_child a f.0, set_child b f.1)

  pub set_union : {after : List ℕ} → word_at ws (3 * i) ≡ 4 → Put patterns i (λ r. covers_at patterns a r || covers_at patterns b r) after
      → Patterned (claim_of ws) after (i + 1)
  unfolding word_at pattern_of
  set_union e put =
      let f = union_children e in
      next_set (union a b) (of_its_kind ready 4 e) put
      (λ r. ap₂ (λ x y. x || y) (f.0.covers r) (f.1.covers r) ∙ or_cut (inside r) (covering a r) (covering b r))

  pub inter_children : word_at ws (3 * i) ≡ 5 → SetChild a × SetChild b
  unfolding word_at
  inter_children e = let f = fitting ready (inter a b) (of_its_kind ready 5 e) in (set_child a f.0, set_child b f.1)

  pub set_inter : {after : List ℕ} → word_at ws (3 * i) ≡ 5 → Put patterns i (λ r. covers_at patterns a r && covers_at patterns b r) after
      → Patterned (claim_of ws) after (i + 1)
  unfolding word_at pattern_of
  set_inter e put =
      let f = inter_children e in
      next_set (inter a b) (of_its_kind ready 5 e) put
      (λ r. ap₂ (λ x y. x && y) (f.0.covers r) (f.1.covers r) ∙ and_cut (inside r) (covering a r) (covering b r))

  pub compl_child : word_at ws (3 * i) ≡ 6 → SetChild a
  unfolding word_at
  compl_child e = set_child a (fitting ready (compl a) (of_its_kind ready 6 e))

  pub set_compl : {after : List ℕ} → word_at ws (3 * i) ≡ 6 → Put patterns i (λ r. ltb r (2 ^ shape.sets) && not (covers_at patterns a r)) after
      → Patterned (claim_of ws) after (i + 1)
  unfolding word_at pattern_of
  set_compl e put =
      next_set (compl a) (of_its_kind ready 6 e) put
      (λ r. ap₂ (λ x y. x && not y) (cut r) ((compl_child e).covers r) ∙ not_cut (inside r) (covering a r))

  -- a set node of none of the first five kinds is a complement
  pub last_set : {k : ℕ} → k ≡ word_at ws (3 * i) → word_at ws (3 * i) ≤ 6
      → ((((Unit {0} × (k ≡ 1 → ⊥)) × (k ≡ 2 → ⊥)) × (k ≡ 3 → ⊥)) × (k ≡ 4 → ⊥)) × (k ≡ 5 → ⊥) → word_at ws (3 * i) ≡ 6
  last_set e h n = omega (arith, kind_some ready, n.1, n.0.1, n.0.0.1, n.0.0.0.1, n.0.0.0.0.1)
