-- The run of node i, kind by kind, of what was read and noted.
-- Assumes nothing.
use mathlib.Core.Path.{◌≡◌, refl, sym, ap, ap₂, ◌∙◌, fun_ext}
use mathlib.Core.Logic.{◌⊎◌, inl, inr}
use mathlib.Core.Bool.{Bool, true, false, not, ◌&&◌}
use mathlib.Core.List.{List, [], ◌∷◌}
use Prim.Native.Nat.{ℕ, ◌+◌, ◌*◌, ◌≤◌, ◌<◌}
use native.Mathlib.Omega.{arith}
use lib.Dec.{ltb}
use lib.IntN.{ℤ, pos}
use lib.ListN.{length, get_or, take}
use lib.Seq.{length-take-le}
use Rattle.checker.specs.declared.Shape.{Shape}
use Rattle.checker.specs.Claim.{Node, set_var, empty, whole, union, inter, compl, num_var, const, maxc, sum, diff, multiple, card, equal, less, divided, set_equal, subset, conj, disj, neg, unknown, Quantifier}
use Rattle.checker.specs.Kinds.{number}
use Rattle.checker.specs.Words.{word, word_at, fields, fields_of, claim_of}
use Rattle.checker.specs.Sorts.{Fits}
use Rattle.checker.specs.Meaning.{Set}
use Rattle.region.specs.Regions.{minus, covered}
use Rattle.region.specs.Pattern.{room_in, regions_from}
use Rattle.region.proofs.Covered.{covered_within}
use Rattle.region.proofs.Pattern.{covered_cut}
use Rattle.emission.specs.declared.Frame as code
use Rattle.emission.specs.Emission.{Frame, none, start, inside_all, card_run, empty_run, both_run, run_of}
use Rattle.emission.specs.Plan.{place_in, frame_at, Says}
use Rattle.emission.specs.Runs.{frame_of, emitted_to, run_at, Patterned, Standing, Ready, Single, without}
use Rattle.emission.proofs.Steps.{number_at}
use Rattle.emission.proofs.Claims.{kind_is, first_is, second_is}
use Rattle.emission.proofs.Frames.{place_is}
use Rattle.emission.proofs.Ready.{known, few, here, of_its_kind, fitting, inside_claim}
use Rattle.emission.proofs.Sets.{SetChild, set_child}
use Rattle.emission.proofs.Walk.{stands_at, stands_below}

-- ---- nodes by their kinds

no_run : (f : Frame) (k : ℕ) (new : ℕ → ℕ) (pat : ℕ → Set) (n : Node) (qs : List Quantifier) (done : List Node)
    → Fits qs done n → (fields_of n).kind ≤ 6 → run_of f k new pat n ≡ []
unfolding run_of
no_run f k new pat (set_var q) qs done t h = refl
no_run f k new pat empty qs done t h = refl
no_run f k new pat whole qs done t h = refl
no_run f k new pat (union a b) qs done t h = refl
no_run f k new pat (inter a b) qs done t h = refl
no_run f k new pat (compl a) qs done t h = refl
no_run f k new pat (num_var q) qs done t h = absurd (omega arith)
no_run f k new pat (const c) qs done t h = absurd (omega arith)
no_run f k new pat maxc qs done t h = absurd (omega arith)
no_run f k new pat (sum a b) qs done t h = absurd (omega arith)
no_run f k new pat (diff a b) qs done t h = absurd (omega arith)
no_run f k new pat (multiple c b) qs done t h = absurd (omega arith)
no_run f k new pat (card a) qs done t h = absurd (omega arith)
no_run f k new pat (equal a b) qs done t h = absurd (omega arith)
no_run f k new pat (less a b) qs done t h = absurd (omega arith)
no_run f k new pat (divided c b) qs done t h = absurd (omega arith)
no_run f k new pat (set_equal a b) qs done t h = absurd (omega arith)
no_run f k new pat (subset a b) qs done t h = absurd (omega arith)
no_run f k new pat (conj a b) qs done t h = absurd (omega arith)
no_run f k new pat (disj a b) qs done t h = absurd (omega arith)
no_run f k new pat (neg a) qs done t h = absurd (omega arith)
no_run f k new pat unknown qs done t h = absurd t

-- which is what a last arm knows, after the arms of the three
pub other_kind : {k m : ℕ} → k ≡ m → 6 < k → ((Unit {0} × (k ≡ 16 → ⊥)) × (k ≡ 23 → ⊥)) × (k ≡ 24 → ⊥) → Single m
other_kind e h n = rw (← e) (record { high = h; no_card = n.0.0.1; no_equal = n.0.1; no_subset = n.1 })

one_node : (f : Frame) (k : ℕ) (new : ℕ → ℕ) (pat : ℕ → Set) (n : Node) → Single (fields_of n).kind → length (run_of f k new pat n) ≡ 1
unfolding run_of
one_node f k new pat (set_var q) s = absurd (omega (arith, s.high))
one_node f k new pat empty s = absurd (omega (arith, s.high))
one_node f k new pat whole s = absurd (omega (arith, s.high))
one_node f k new pat (union a b) s = absurd (omega (arith, s.high))
one_node f k new pat (inter a b) s = absurd (omega (arith, s.high))
one_node f k new pat (compl a) s = absurd (omega (arith, s.high))
one_node f k new pat (num_var q) s = refl
one_node f k new pat (const c) s = refl
one_node f k new pat maxc s = refl
one_node f k new pat (sum a b) s = refl
one_node f k new pat (diff a b) s = refl
one_node f k new pat (multiple c b) s = refl
one_node f k new pat (card a) s = absurd (s.no_card refl)
one_node f k new pat (equal a b) s = refl
one_node f k new pat (less a b) s = refl
one_node f k new pat (divided c b) s = refl
one_node f k new pat (set_equal a b) s = absurd (s.no_equal refl)
one_node f k new pat (subset a b) s = absurd (s.no_subset refl)
one_node f k new pat (conj a b) s = refl
one_node f k new pat (disj a b) s = refl
one_node f k new pat (neg a) s = refl
one_node f k new pat unknown s = absurd (omega (arith, s.high))

-- none of the single kinds with a word, a quantifier's number or one child alone
pub record Pair (k : ℕ) : Type 0 where
  pub single : Single k
  pub no_number_lem : k ≡ 10 → ⊥
  pub no_constant : k ≡ 11 → ⊥
  pub no_maxc : k ≡ 12 → ⊥
  pub no_multiple : k ≡ 15 → ⊥
  pub no_divided : k ≡ 22 → ⊥
  pub no_neg : k ≡ 27 → ⊥

-- A node of two children before it becomes one of the nodes that stand for them.
pub record Renewed (f : Frame) (k : ℕ) (new : ℕ → ℕ) (pat : ℕ → Set) (done : List Node) (n : Node) : Type 0 where
  pub node : Node
  pub run : run_of f k new pat n ≡ node ∷ []
  pub words : fields_of node ≡ fields (fields_of n).kind (pos (new (number (fields_of n).a))) (pos (new (number (fields_of n).b)))
  pub first : number (fields_of n).a < length done
  pub second : number (fields_of n).b < length done
  pub small : (fields_of n).kind ≤ 27

pair_renewed : (f : Frame) (k : ℕ) (new : ℕ → ℕ) (pat : ℕ → Set) (n : Node) (qs : List Quantifier) (done : List Node)
    → Fits qs done n → Pair (fields_of n).kind → Renewed f k new pat done n
unfolding run_of number
pair_renewed f k new pat (set_var q) qs done t p = absurd (omega (arith, p.single.high))
pair_renewed f k new pat empty qs done t p = absurd (omega (arith, p.single.high))
pair_renewed f k new pat whole qs done t p = absurd (omega (arith, p.single.high))
pair_renewed f k new pat (union a b) qs done t p = absurd (omega (arith, p.single.high))
pair_renewed f k new pat (inter a b) qs done t p = absurd (omega (arith, p.single.high))
pair_renewed f k new pat (compl a) qs done t p = absurd (omega (arith, p.single.high))
pair_renewed f k new pat (num_var q) qs done t p = absurd (p.no_number_lem refl)
pair_renewed f k new pat (const c) qs done t p = absurd (p.no_constant refl)
pair_renewed f k new pat maxc qs done t p = absurd (p.no_maxc refl)
pair_renewed f k new pat (sum a b) qs done t p = record { node = sum (new a) (new b); run = refl; words = refl; first = t.0.0; second = t.1.0; small = omega arith }
pair_renewed f k new pat (diff a b) qs done t p = record { node = diff (new a) (new b); run = refl; words = refl; first = t.0.0; second = t.1.0; small = omega arith }
pair_renewed f k new pat (multiple c b) qs done t p = absurd (p.no_multiple refl)
pair_renewed f k new pat (card a) qs done t p = absurd (p.single.no_card refl)
pair_renewed f k new pat (equal a b) qs done t p = record { node = equal (new a) (new b); run = refl; words = refl; first = t.0.0; second = t.1.0; small = omega arith }
pair_renewed f k new pat (less a b) qs done t p = record { node = less (new a) (new b); run = refl; words = refl; first = t.0.0; second = t.1.0; small = omega arith }
pair_renewed f k new pat (divided c b) qs done t p = absurd (p.no_divided refl)
pair_renewed f k new pat (set_equal a b) qs done t p = absurd (p.single.no_equal refl)
pair_renewed f k new pat (subset a b) qs done t p = absurd (p.single.no_subset refl)
pair_renewed f k new pat (conj a b) qs done t p = record { node = conj (new a) (new b); run = refl; words = refl; first = t.0.0; second = t.1.0; small = omega arith }
pair_renewed f k new pat (disj a b) qs done t p = record { node = disj (new a) (new b); run = refl; words = refl; first = t.0.0; second = t.1.0; small = omega arith }
pair_renewed f k new pat (neg a) qs done t p = absurd (p.no_neg refl)
pair_renewed f k new pat unknown qs done t p = absurd t

-- ---- node i

minus_cut : (l x y : Bool) → ((l && x) && not (l && y)) ≡ (l && (x && not y))
minus_cut true x y = refl
minus_cut false x y = refl

module _ {ws : List ℤ} {shape : Shape} {plan : List ℕ} {i : ℕ} (ready : Ready ws shape plan i) where
  abbrev before : ℕ
  before = length (emitted_to (claim_of ws) i).nodes

  abbrev new : ℕ → ℕ
  new x = get_or (emitted_to (claim_of ws) i).stands x 0

  abbrev covering : ℕ → Set
  covering x = get_or (emitted_to (claim_of ws) i).patterns x none

  abbrev a : ℕ
  a = word_at ws (3 * i + 1)

  abbrev b : ℕ
  b = word_at ws (3 * i + 2)

  abbrev run : Node → List Node
  run n = run_of (frame_of (claim_of ws)) before new covering n

  run_is : (n : Node) → here ready ≡ n → run_at (claim_of ws) i ≡ run n
  unfolding run_at
  run_is n e = ap run e

  pub run_none : word_at ws (3 * i) ≤ 6 → run_at (claim_of ws) i ≡ []
  run_none h =
      run_is (here ready) refl
      ∙ no_run (frame_of (claim_of ws)) before new covering (here ready) (claim_of ws).quantifiers (take i (claim_of ws).nodes) (fitting ready (here ready) refl)
      (omega (arith, kind_is (known ready) i ready.here))

  pub run_single : Single (word_at ws (3 * i)) → length (run_at (claim_of ws) i) ≡ 1
  run_single s =
      ap length (run_is (here ready) refl)
      ∙ one_node (frame_of (claim_of ws)) before new covering (here ready) (rw (kind_is (known ready) i ready.here) at s)

  -- ---- nodes that become one node

  -- what is known of a child: the node that stands for it is noted
  pub record Child (noted : List ℕ) (at x : ℕ) : Type 0 where
    pub few : x < 1024
    pub entry : x < length noted
    pub stands : get_or noted x 0 ≡ new x
    pub low : get_or noted x 0 ≤ at

  child : {noted : List ℕ} {at : ℕ} → Standing (claim_of ws) noted i → at ≡ before → (x : ℕ) → x < i → Child noted at x
  child s e x h =
      let same = stands_at (claim_of ws) i (inside_claim ready) s x h in
      record { few = omega (arith, h, few ready); entry = omega (arith, h, s.long, inside_claim ready); stands = same; low = omega (arith, same, stands_below (claim_of ws) i x) }

  taken : length (take i (claim_of ws).nodes) ≡ i
  taken = length-take-le i (claim_of ws).nodes (omega (arith, inside_claim ready))

  pub run_number : {f : code.Frame} {q : ℕ} → word_at ws (3 * i) ≡ 10 → q ≡ a → f ≡ frame_at plan q → run_at (claim_of ws) i ≡ num_var f.next ∷ []
  unfolding run_of word_at
  run_number {f} {q} e h g =
      let bound = fitting ready (num_var a) (of_its_kind ready 10 e) in
      let says = ready.planned.says a (omega (arith, bound.0)) in
      let next : f.next ≡ (inside_all start (take a (claim_of ws).quantifiers)).next = rw (g, h) says.next in
      run_is (num_var a) (of_its_kind ready 10 e) ∙ ap (λ k. num_var k ∷ []) (number_at (claim_of ws).quantifiers a bound.0 ∙ sym next)

  pub name_number : word_at ws (3 * i) ≡ 10 → a < length (claim_of ws).quantifiers
  unfolding word_at
  name_number e = (fitting ready (num_var a) (of_its_kind ready 10 e)).0

  pub run_constant : word_at ws (3 * i) ≡ 11 → run_at (claim_of ws) i ≡ const (word ws (3 * i + 1)) ∷ []
  unfolding run_of
  run_constant e = run_is (const (word ws (3 * i + 1))) (of_its_kind ready 11 e)

  pub run_maxc : word_at ws (3 * i) ≡ 12 → run_at (claim_of ws) i ≡ maxc ∷ []
  unfolding run_of
  run_maxc e = run_is maxc (of_its_kind ready 12 e)

  module _ {noted : List ℕ} {at : ℕ} (standing : Standing (claim_of ws) noted i) (counted : at ≡ before) where
    -- a word, and a child
    pub record Worded : Type 0 where
      pub node : Node
      pub run : run_at (claim_of ws) i ≡ node ∷ []
      pub words : fields_of node ≡ fields (word_at ws (3 * i)) (word ws (3 * i + 1)) (pos (get_or noted b 0))
      pub second : Child noted at b

    pub word_child : (word_at ws (3 * i) ≡ 15) ⊎ (word_at ws (3 * i) ≡ 22) → Worded
    unfolding run_of word_at
    word_child (inl e) =
        let c = word ws (3 * i + 1) in
        let two = child standing counted b (omega (arith, taken, (fitting ready (multiple c b) (of_its_kind ready 15 e)).0)) in
        record { node = multiple c (new b); run = run_is (multiple c b) (of_its_kind ready 15 e); words = rw (two.stands, e); second = two }
    word_child (inr e) =
        let c = word ws (3 * i + 1) in
        let two = child standing counted b (omega (arith, taken, (fitting ready (divided c b) (of_its_kind ready 22 e)).0)) in
        record { node = divided c (new b); run = run_is (divided c b) (of_its_kind ready 22 e); words = rw (two.stands, e); second = two }

    pub neg_child : word_at ws (3 * i) ≡ 27 → Child noted at a
    unfolding word_at
    neg_child e = child standing counted a (omega (arith, taken, (fitting ready (neg a) (of_its_kind ready 27 e)).0))

    pub run_neg : word_at ws (3 * i) ≡ 27 → run_at (claim_of ws) i ≡ neg (get_or noted a 0) ∷ []
    unfolding run_of word_at
    run_neg e = run_is (neg a) (of_its_kind ready 27 e) ∙ ap (λ k. neg k ∷ []) (sym (neg_child e).stands)

    pub record Paired : Type 0 where
      pub node : Node
      pub run : run_at (claim_of ws) i ≡ node ∷ []
      pub words : fields_of node ≡ fields (word_at ws (3 * i)) (pos (get_or noted a 0)) (pos (get_or noted b 0))
      pub first : Child noted at a
      pub second : Child noted at b
      pub small : word_at ws (3 * i) ≤ 27

    pub pair_children : Pair (word_at ws (3 * i)) → Paired
    pair_children p =
        let kind = kind_is (known ready) i ready.here in
        let x = first_is (known ready) i ready.here in
        let y = second_is (known ready) i ready.here in
        let r = pair_renewed (frame_of (claim_of ws)) before new covering (here ready) (claim_of ws).quantifiers (take i (claim_of ws).nodes) (fitting ready (here ready) refl) (rw kind at p) in
        let one = child standing counted a (omega (arith, taken, x, r.first)) in
        let two = child standing counted b (omega (arith, taken, y, r.second)) in
        record {
          node = r.node;
          run = run_is (here ready) refl ∙ r.run;
          words = r.words ∙ rw (one.stands, two.stands, x, y, kind);
          first = one;
          second = two;
          small = omega (arith, kind, r.small);
        }

  -- ---- nodes of sets

  module _ {patterns : List ℕ} (patterned : Patterned (claim_of ws) patterns i) where
    without_is : (x y : ℕ) → SetChild ready patterned x → SetChild ready patterned y
        → covered 0 (frame_of (claim_of ws)).regions (minus (covering x) (covering y)) ≡ without patterns x y
    unfolding without
    without_is x y s t =
        sym (covered_within (frame_of (claim_of ws)).regions (room_in patterns) (minus (covering x) (covering y)) patterned.room)
        ∙ ap (covered 0 (room_in patterns))
        (fun_ext (λ r. sym (ap₂ (λ u v. u && not v) (s.covers r) (t.covers r) ∙ minus_cut (ltb r (frame_of (claim_of ws)).regions) (covering x r) (covering y r))))

    pub card_child : word_at ws (3 * i) ≡ 16 → SetChild ready patterned a
    unfolding word_at
    card_child e = set_child ready patterned a (fitting ready (card a) (of_its_kind ready 16 e))

    pub equal_children : word_at ws (3 * i) ≡ 23 → SetChild ready patterned a × SetChild ready patterned b
    unfolding word_at
    equal_children e =
        let t = fitting ready (set_equal a b) (of_its_kind ready 23 e) in
        (set_child ready patterned a t.0, set_child ready patterned b t.1)

    pub subset_children : word_at ws (3 * i) ≡ 24 → SetChild ready patterned a × SetChild ready patterned b
    unfolding word_at
    subset_children e =
        let t = fitting ready (subset a b) (of_its_kind ready 24 e) in
        (set_child ready patterned a t.0, set_child ready patterned b t.1)

    module _ {f : code.Frame} (says : Says (claim_of ws).quantifiers f) (at : ℕ) (counted : at ≡ before) where
      pub run_card : word_at ws (3 * i) ≡ 16 → run_at (claim_of ws) i ≡ card_run (place_in f) at (regions_from patterns a 0)
      unfolding run_of word_at
      run_card e =
          run_is (card a) (of_its_kind ready 16 e)
          ∙ rw (place_is says, ← counted, ← covered_cut (frame_of (claim_of ws)).regions patterns a (covering a) patterned.room (card_child e).covers)

      pub run_equal : word_at ws (3 * i) ≡ 23 → run_at (claim_of ws) i ≡ both_run (place_in f) at (without patterns a b) (without patterns b a)
      unfolding run_of word_at
      run_equal e =
          let t = equal_children e in
          run_is (set_equal a b) (of_its_kind ready 23 e)
          ∙ rw (place_is says, ← counted, without_is a b t.0 t.1, without_is b a t.1 t.0)

      pub run_subset : word_at ws (3 * i) ≡ 24 → run_at (claim_of ws) i ≡ empty_run (place_in f) at (without patterns a b)
      unfolding run_of word_at
      run_subset e =
          let t = subset_children e in
          run_is (subset a b) (of_its_kind ready 24 e) ∙ rw (place_is says, ← counted, without_is a b t.0 t.1)
