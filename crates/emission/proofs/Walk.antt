-- The emission node by node: what one more node adds, and what stands of the nodes before.
-- Assumes nothing.
use mathlib.Core.Path.{◌≡◌, refl, sym, ap, ◌∙◌}
use mathlib.Core.Bool.{◌&&◌}
use mathlib.Core.List.{List, [], ◌∷◌, ◌++◌}
use Prim.Native.Nat.{ℕ, zero, suc, ◌+◌, ◌≤◌, ◌<◌}
use native.Mathlib.Nat.{le_refl, le_trans}
use native.Mathlib.Numerals.{add-one}
use native.Mathlib.Omega.{arith}
use borrow.Author.Count.{below_more}
use lib.Dec.{ltb}
use lib.ListN.{length, get_or, take, drop, set, length-append, length-set, take-append-drop, get_or-append}
use lib.Seq.{get_or_at, get_or-take, take-suc-set, take-length, length-take-le}
use Rattle.std.specs.Prelude.{Some}
use Rattle.checker.specs.declared.Sort.TheVariants.{ASet}
use Rattle.checker.specs.Claim.{Node, unknown, Claim}
use Rattle.checker.specs.Sorts.{sort}
use Rattle.checker.specs.Meaning.{Set}
use Rattle.region.specs.Pattern.{entries, room_in, covers_at}
use Rattle.region.proofs.Pattern.{words_same}
use Rattle.emission.specs.Emission.{Frame, none, last, run_of, pattern_of, Emitted, emit_node, emit_nodes, body}
use Rattle.emission.specs.Runs.{frame_of, emitted_to, run_at, Patterned, Standing}
use Rattle.emission.proofs.Steps as Steps

-- ---- all nodes

stands_more : (f : Frame) (ns : List Node) (e : Emitted) → length (emit_nodes f e ns).stands ≡ length e.stands + length ns
unfolding emit_nodes emit_node
stands_more f [] e = omega arith
stands_more f (n ∷ ns) e = stands_more f ns (emit_node f e n) ∙ simp length-append (omega arith)

patterns_more : (f : Frame) (ns : List Node) (e : Emitted) → length (emit_nodes f e ns).patterns ≡ length e.patterns + length ns
unfolding emit_nodes emit_node
patterns_more f [] e = omega arith
patterns_more f (n ∷ ns) e = patterns_more f ns (emit_node f e n) ∙ simp length-append (omega arith)

nodes_more : (f : Frame) (ns : List Node) (e : Emitted) → length e.nodes ≤ length (emit_nodes f e ns).nodes
unfolding emit_nodes emit_node
nodes_more f [] e = le_refl (length e.nodes)
nodes_more f (n ∷ ns) e =
    let run = run_of f (length e.nodes) (λ a. get_or e.stands a 0) (λ a. get_or e.patterns a none) n in
    omega (arith, nodes_more f ns (emit_node f e n), length-append e.nodes run)

snoc_le : (xs : List ℕ) (v m k : ℕ) → ((a : ℕ) → get_or xs a 0 ≤ m) → m ≤ k → v ≤ k → (a : ℕ) → get_or (xs ++ v ∷ []) a 0 ≤ k
snoc_le [] v m k h l w zero = w
snoc_le [] v m k h l w (suc a) = omega arith
snoc_le (x ∷ xs) v m k h l w zero = le_trans (h zero) l
snoc_le (x ∷ xs) v m k h l w (suc a) = snoc_le xs v m k (λ b. h (suc b)) l w a

-- no node stands past the emitted ones
stands_low : (f : Frame) (ns : List Node) (e : Emitted) → ((a : ℕ) → get_or e.stands a 0 ≤ length e.nodes)
    → (a : ℕ) → get_or (emit_nodes f e ns).stands a 0 ≤ length (emit_nodes f e ns).nodes
unfolding emit_nodes emit_node
stands_low f [] e h = h
stands_low f (n ∷ ns) e h =
    let run = run_of f (length e.nodes) (λ a. get_or e.stands a 0) (λ a. get_or e.patterns a none) n in
    let long : length (e.nodes ++ run) ≡ length e.nodes + length run = length-append e.nodes run in
    stands_low f ns (emit_node f e n)
    (snoc_le e.stands (last (length e.nodes) run) (length e.nodes) (length (e.nodes ++ run)) h (omega arith) (omega arith))

-- ---- the first i nodes of a claim

module _ (c : Claim) (i : ℕ) where
  module _ (h : i ≤ length c.nodes) where
    stands_count : length (emitted_to c i).stands ≡ i
    unfolding emitted_to
    stands_count = omega (arith, stands_more (frame_of c) (take i c.nodes) (record { nodes = []; stands = []; patterns = [] }), length-take-le i c.nodes h)

    patterns_count : length (emitted_to c i).patterns ≡ i
    unfolding emitted_to
    patterns_count = omega (arith, patterns_more (frame_of c) (take i c.nodes) (record { nodes = []; stands = []; patterns = [] }), length-take-le i c.nodes h)

  pub stands_below : (a : ℕ) → get_or (emitted_to c i).stands a 0 ≤ length (emitted_to c i).nodes
  unfolding emitted_to
  stands_below = stands_low (frame_of c) (take i c.nodes) (record { nodes = []; stands = []; patterns = [] }) (λ a. omega arith)

  pub emitted_within : length (emitted_to c i).nodes ≤ length (body c).nodes
  unfolding emitted_to body
  emitted_within =
      rw (
        ap (λ ns. (emit_nodes (frame_of c) (record { nodes = []; stands = []; patterns = [] }) ns).nodes) (sym (take-append-drop i c.nodes)),
        Steps.nodes-append (frame_of c) (take i c.nodes) (drop i c.nodes) (record { nodes = []; stands = []; patterns = [] }),
      )
      (nodes_more (frame_of c) (drop i c.nodes) (emit_nodes (frame_of c) (record { nodes = []; stands = []; patterns = [] }) (take i c.nodes)))

module _ (c : Claim) (i : ℕ) (h : i < length c.nodes) where
  abbrev here : Node
  here = get_or c.nodes i unknown

  abbrev covering : ℕ → Set
  covering a = get_or (emitted_to c i).patterns a none

  emitted_next : emitted_to c (i + 1) ≡ emit_node (frame_of c) (emitted_to c i) (get_or c.nodes i unknown)
  unfolding emitted_to
  emitted_next = Steps.nodes_step (frame_of c) c.nodes _ unknown i h

  pub nodes_next : (emitted_to c (i + 1)).nodes ≡ (emitted_to c i).nodes ++ run_at c i
  unfolding emit_node run_at
  nodes_next = ap (λ e. e.nodes) emitted_next

  pub stands_next : (emitted_to c (i + 1)).stands ≡ (emitted_to c i).stands ++ last (length (emitted_to c i).nodes) (run_at c i) ∷ []
  unfolding emit_node run_at
  stands_next = ap (λ e. e.stands) emitted_next

  patterns_next : (emitted_to c (i + 1)).patterns ≡ (emitted_to c i).patterns ++ pattern_of (frame_of c) covering here ∷ []
  unfolding emit_node
  patterns_next = ap (λ e. e.patterns) emitted_next

  pattern_before : (a : ℕ) → a < i → get_or (emitted_to c (i + 1)).patterns a none ≡ covering a
  pattern_before a l =
      ap (λ ps. get_or ps a none) patterns_next
      ∙ get_or-append (emitted_to c i).patterns _ none a (omega (arith, patterns_count c i (omega arith)))

  pattern_here : get_or (emitted_to c (i + 1)).patterns i none ≡ pattern_of (frame_of c) covering here
  pattern_here = ap (λ ps. get_or ps i none) patterns_next ∙ get_or_at (emitted_to c i).patterns _ [] none i (patterns_count c i (omega arith))

  -- one more entry: of a set node it covers what the node does
  pub patterned_next : {before after : List ℕ} → Patterned c before i → length after ≡ length before
      → ((j : ℕ) → (j ≡ i → ⊥) → (r : ℕ) → covers_at after j r ≡ covers_at before j r)
      → (sort here ≡ Some ASet → (r : ℕ) → covers_at after i r ≡ (ltb r (frame_of c).regions && pattern_of (frame_of c) covering here r))
      → Patterned c after (i + 1)
  patterned_next {before} {after} p long kept entry =
      record {
        long = omega (arith, p.long);
        room = omega (arith, p.room, words_same before after long);
        covers =
            below_more
            (λ a. sort (get_or c.nodes a unknown) ≡ Some ASet → (r : ℕ)
            → covers_at after a r ≡ (ltb r (frame_of c).regions && get_or (emitted_to c (i + 1)).patterns a none r))
            i
            (λ a l s r. kept a (λ e. omega arith) r ∙ p.covers a l s r ∙ ap (λ (w : Set). ltb r (frame_of c).regions && w r) (sym (pattern_before a l)))
            (λ s r. entry s r ∙ ap (λ (w : Set). ltb r (frame_of c).regions && w r) (sym pattern_here));
      }

  -- the node that stands for node i, and those that stand for the nodes before
  pub stands_here : get_or (emitted_to c (i + 1)).stands i 0 ≡ last (length (emitted_to c i).nodes) (run_at c i)
  stands_here = ap (λ ns. get_or ns i 0) stands_next ∙ get_or_at (emitted_to c i).stands _ [] 0 i (stands_count c i (omega arith))

  pub stands_before : (a : ℕ) → a < i → get_or (emitted_to c (i + 1)).stands a 0 ≡ get_or (emitted_to c i).stands a 0
  stands_before a l =
      ap (λ ns. get_or ns a 0) stands_next ∙ get_or-append (emitted_to c i).stands _ 0 a (omega (arith, stands_count c i (omega arith)))

  -- one more node noted
  pub standing_next : {stands : List ℕ} {v : ℕ} → Standing c stands i → v ≡ last (length (emitted_to c i).nodes) (run_at c i) → Standing c (set stands i v) (i + 1)
  standing_next {stands} {v} s e =
      record {
        long = simp length-set s.long;
        same = rw (add-one i, take-suc-set stands i v (omega (arith, s.long)), s.same, e, ← add-one i) (sym stands_next);
      }

  pub stands_at : {stands : List ℕ} → Standing c stands i → (a : ℕ) → a < i → get_or stands a 0 ≡ get_or (emitted_to c i).stands a 0
  stands_at {stands} s a l = sym (get_or-take i stands a 0 l) ∙ ap (λ xs. get_or xs a 0) s.same

pub patterned_none : (c : Claim) (patterns : List ℕ) → length c.nodes ≤ entries patterns → (frame_of c).regions ≤ room_in patterns → Patterned c patterns 0
patterned_none c patterns h m = record { long = h; room = m; covers = λ a l. absurd (omega arith) }

pub standing_none : (c : Claim) (stands : List ℕ) → length c.nodes ≤ length stands → Standing c stands 0
unfolding emitted_to emit_nodes
standing_none c stands h = record { long = h; same = refl }

pub emitted_none : (c : Claim) → (emitted_to c 0).nodes ≡ []
unfolding emitted_to emit_nodes
emitted_none c = refl

-- all nodes are the body
pub root_is : (c : Claim) → get_or (emitted_to c (length c.nodes)).stands c.root 0 ≡ (body c).root
unfolding emitted_to body
root_is c = rw (take-length c.nodes)

pub body_is : (c : Claim) → (emitted_to c (length c.nodes)).nodes ≡ (body c).nodes
unfolding emitted_to body
body_is c = rw (take-length c.nodes)
