-- The constraints one quantifier further, from the innermost to the outermost.
-- Assumes nothing.
use mathlib.Core.Path.{◌≡◌, refl, sym, ap, ◌∙◌}
use mathlib.Core.Bool.{Bool, true, false}
use mathlib.Core.List.{List, [], ◌∷◌, ◌++◌, append_assoc}
use Prim.Native.Nat.{ℕ, ◌+◌, ◌*◌, ◌-◌, ◌^◌, ◌≤◌, ◌<◌}
use native.Mathlib.Nat.{pow-le-pow_right}
use native.Mathlib.Omega.{arith}
use lib.IntN.{ℤ, pos}
use lib.ListN.{length, get_or, take, drop, length-append, take-append-drop}
use lib.Seq.{drop-append_seam, drop-length}
use Rattle.checker.specs.declared.Shape.{Shape}
use Rattle.checker.specs.Claim.{Node, conj, disj, neg, Quantifier, int_q, set_q, count_q, Claim}
use Rattle.checker.specs.Kinds.{number, quantifier_of}
use Rattle.checker.specs.Words.{word_at, claim_of}
use Rattle.checker.specs.Sorts.{is_set_q, sets}
use Rattle.checker.specs.Check.{max_quantifiers, max_sets}
use Rattle.emission.specs.declared.Frame as code
use Rattle.emission.specs.Emission.{Place, size, counts, Frame, start, inside, inside_all, last, Body, split_run, join_some, join_all, join, close, body, emission}
use Rattle.emission.specs.Plan.{first_of, Says, frame_at}
use Rattle.emission.specs.Write.{max_number, Room, WroteNodes}
use Rattle.checker.proofs.Claims.{Sound, sound}
use Rattle.emission.proofs.Claims.{quantifier_at_lem}
use Rattle.emission.proofs.Steps.{next_dropped, inside_step}
use Rattle.emission.proofs.Writing.{nodes_after, nodes_none, room_part}
use Rattle.emission.proofs.Frames.{says_small, regions_are, place_is, kind_number}
use Rattle.emission.specs.declared.Body as kept
use Rattle.reducer.specs.Sizes.{constraint_part}
use Rattle.reducer.specs.Closing.{Prepared, constraint_in, Within, closed_from, added, Tells}
use Rattle.reducer.proofs.Frames.{Placed, framed_start, framed_all}
use Rattle.reducer.proofs.Bodies.{Rooted, close_rooted}
use Rattle.reducer.proofs.Sizes.{close_starts, starts_with}
use Rattle.reducer.proofs.Reduction.{body_rooted}

-- ---- what the quantifiers outside one give

placed_first : (p : Place) (n m : ℕ) → Placed p n m → first_of p ≤ m
placed_first size n m h = omega arith
placed_first (counts first) n m h = omega arith

module _ {qs : List Quantifier} {f : code.Frame} (s : Says qs f) where
  first_below : f.first ≤ f.next
  first_below =
      let placed = (framed_all qs [] start framed_start).placed in
      omega (arith, s.first, s.next, placed_first (inside_all start qs).place (inside_all start qs).regions (inside_all start qs).next placed)

  split_is : (k : ℕ) → split_run (inside_all start qs) k ≡ constraint_in f k
  unfolding split_run constraint_in
  split_is k = rw (place_is s, regions_are qs, s.next, s.level)

within : (qs : List Quantifier) (j : ℕ) {f : code.Frame} → length qs ≤ max_quantifiers → sets qs ≤ max_sets → Says (take j qs) f → Within f
within qs j {f} l m s =
    let small = says_small qs j l m s in
    let few : 2 ^ f.level ≤ 2 ^ max_sets = pow-le-pow_right {n = 2} (omega arith) small.1 in
    record {
      level = small.1;
      regions = omega (arith, small.0, first_below s);
      parts = omega (arith, small.0);
    }

-- ---- what a quantifier adds

added_some : (run : List Node) (b : Body) → added b (join_some run b) ≡ run ++ conj (last (length b.nodes) run) b.root ∷ []
unfolding join_some
added_some run b =
    let e : last 0 (b.nodes ++ run) ≡ last (length b.nodes) run = omega (arith, length-append b.nodes run) in
    ap (drop (length b.nodes)) (append_assoc b.nodes run _) ∙ drop-append_seam b.nodes _ ∙ rw e

added_all : (run : List Node) (b : Body)
    → added b (join_all run b) ≡ run ++ neg (last (length b.nodes) run) ∷ disj (length b.nodes + length run) b.root ∷ []
unfolding join_all
added_all run b =
    let e : last 0 (b.nodes ++ run) ≡ last (length b.nodes) run = omega (arith, length-append b.nodes run) in
    ap (drop (length b.nodes)) (append_assoc b.nodes run _) ∙ drop-append_seam b.nodes _ ∙ rw (e, length-append)

-- the last node is the body
join_root : (f : Frame) (some : Bool) (b : Body) → (join f (set_q some) b).root ≡ length (join f (set_q some) b).nodes - 1
unfolding join_some join_all
join_root f true b = simp length-append (omega arith)
join_root f false b = simp length-append (omega arith)

join_none : (f : Frame) (q : Quantifier) (b : Body) → is_set_q q ≡ false → join f q b ≡ b
join_none f (int_q some) b e = refl
join_none f (set_q some) b e = let z : ◌≡◌ {A = ℕ} 0 1 = cc in absurd (omega arith)
join_none f (count_q some) b e = refl

pub other_kind : (k : ℕ) → (k ≡ 3 → ⊥) → (k ≡ 4 → ⊥) → 3 ≤ k → k < 5 → ⊥
other_kind k n m l h = omega arith

-- ---- quantifier by quantifier

close-append : (ps qs : List Quantifier) (f : Frame) (b : Body) → close f (ps ++ qs) b ≡ close f ps (close (inside_all f ps) qs b)
unfolding close inside_all
close-append [] qs f b = refl
close-append (p ∷ ps) qs f b = ap (join f p) (close-append ps qs (inside f p) b)

module _ (c : Claim) where
  abbrev quantifier : ℕ → Quantifier
  quantifier j = get_or c.quantifiers j (int_q true)

  abbrev frame : ℕ → Frame
  frame j = inside_all start (take j c.quantifiers)

  closed_step : (j : ℕ) → j < length c.quantifiers → closed_from c j ≡ join (frame j) (quantifier j) (closed_from c (j + 1))
  unfolding closed_from close
  closed_step j h =
      ap (λ l. close (frame j) l (body c)) (next_dropped c.quantifiers (int_q true) j h)
      ∙ ap (λ g. join (frame j) (quantifier j) (close g (drop (j + 1) c.quantifiers) (body c))) (sym (inside_step start c.quantifiers (int_q true) j h))

  -- all nodes of the body after quantifier j + 1 come first
  closed_longer : (j : ℕ) → j < length c.quantifiers → (closed_from c j).nodes ≡ (closed_from c (j + 1)).nodes ++ added (closed_from c (j + 1)) (closed_from c j)
  unfolding close
  closed_longer j h = rw (closed_step j h) (starts_with (close_starts (quantifier j ∷ []) (frame j) (closed_from c (j + 1))))

  closed_rooted : (j : ℕ) → Rooted (body c) → Rooted (closed_from c j)
  unfolding closed_from
  closed_rooted j h = close_rooted (drop j c.quantifiers) (frame j) (body c) h

  -- none, and all
  pub closed_none : (j : ℕ) → j ≡ length c.quantifiers → closed_from c j ≡ body c
  unfolding closed_from close
  closed_none j e = rw (e, drop-length)

  pub closed_all : added (body c) (closed_from c 0) ≡ constraint_part c
  unfolding closed_from inside_all constraint_part emission
  closed_all = refl

  pub closed_root : (closed_from c 0).root ≡ (emission c).root
  unfolding closed_from inside_all emission
  closed_root = refl

  -- what all add ends with what the outer ones do
  closed_front : (j : ℕ) → closed_from c 0 ≡ close start (take j c.quantifiers) (closed_from c j)
  unfolding closed_from inside_all
  closed_front j = ap (λ qs. close start qs (body c)) (sym (take-append-drop j c.quantifiers)) ∙ close-append (take j c.quantifiers) (drop j c.quantifiers) start (body c)

  closed_starts : (j : ℕ) → (closed_from c j).nodes ≡ (body c).nodes ++ added (body c) (closed_from c j)
  unfolding closed_from
  closed_starts j = starts_with (close_starts (drop j c.quantifiers) (frame j) (body c))

  closed_shorter : (j : ℕ) → length (closed_from c j).nodes ≤ length (closed_from c 0).nodes
  closed_shorter j =
      let all = close start (take j c.quantifiers) (closed_from c j) in
      let e = starts_with (close_starts (take j c.quantifiers) start (closed_from c j)) in
      omega (arith, ap (λ b. length b.nodes) (closed_front j), ap length e, length-append (closed_from c j).nodes (added (closed_from c j) all))

  pub added_step : (j : ℕ) → j < length c.quantifiers
      → added (body c) (closed_from c j) ≡ added (body c) (closed_from c (j + 1)) ++ added (closed_from c (j + 1)) (closed_from c j)
  added_step j h =
      ap (drop (length (body c).nodes))
      (closed_longer j h ∙ ap (λ l. l ++ added (closed_from c (j + 1)) (closed_from c j)) (closed_starts (j + 1)) ∙ append_assoc (body c).nodes _ _)
      ∙ drop-append_seam (body c).nodes _

  pub added_room : (j : ℕ) → j < length c.quantifiers
      → length (added (body c) (closed_from c (j + 1))) + length (added (closed_from c (j + 1)) (closed_from c j)) ≤ length (constraint_part c)
  added_room j h =
      let outer = added (closed_from c (j + 1)) (closed_from c j) in
      omega (
        arith,
        ap length (added_step j h),
        length-append (added (body c) (closed_from c (j + 1))) outer,
        ap length (closed_starts j),
        length-append (body c).nodes (added (body c) (closed_from c j)),
        ap length (closed_starts 0),
        length-append (body c).nodes (added (body c) (closed_from c 0)),
        closed_shorter j,
        ap length closed_all,
      )

module _ {ws : List ℤ} {shape : Shape} {plan : List ℕ} (p : Prepared ws shape plan) where
  abbrev claim : Claim
  claim = claim_of ws

  pub known : Sound ws shape
  known = sound ws shape p.accepted

  pub rooted : (j : ℕ) → Rooted (closed_from claim j)
  rooted j = closed_rooted claim j (body_rooted claim known.sorted)

  module _ (j : ℕ) (h : j < shape.quantifiers) where
    abbrev before : Body
    before = closed_from claim (j + 1)

    abbrev after : Body
    after = closed_from claim j

    pub in_claim : j < length claim.quantifiers
    in_claim = omega (arith, known.quantifiers)

    pub frame_says : {f : code.Frame} → f ≡ frame_at plan j → Says (take j claim.quantifiers) f
    frame_says e = rw e (p.planned.says j (omega (arith, in_claim)))

    pub frame_within : {f : code.Frame} → f ≡ frame_at plan j → Within f
    frame_within e =
        within claim.quantifiers j (omega (arith, known.quantifiers, known.few_quantifiers)) (omega (arith, known.sets, known.few_sets)) (frame_says e)

    -- quantifier j by its kind
    pub kind_is : (k : ℕ) → word_at ws (3 * shape.nodes + j) ≡ k → quantifier claim j ≡ quantifier_of (pos k)
    kind_is k e = quantifier_at_lem ws shape.nodes j known.nodes in_claim ∙ ap (λ n. quantifier_of (pos n)) e

    set_after : {q : Quantifier} → quantifier claim j ≡ q → after ≡ join (frame claim j) q before
    set_after e = closed_step claim j in_claim ∙ ap (λ q. join (frame claim j) q before) e

    number_after : (k : ℕ) → k ≡ word_at ws (3 * shape.nodes + j) → (3 ≤ k → k < 5 → ⊥) → after ≡ before
    number_after k e n =
        closed_step claim j in_claim
        ∙ join_none (frame claim j) (quantifier claim j) before (ap is_set_q (kind_is k (sym e)) ∙ kind_number k n)

    module _ {k : kept.Body} (t : Tells before k) {f : code.Frame} (e : f ≡ frame_at plan j) where
      abbrev run : List Node
      run = constraint_in f k.nodes

      some_added : word_at ws (3 * shape.nodes + j) ≡ 3 → added before after ≡ run ++ conj (last k.nodes run) k.root ∷ []
      unfolding quantifier_of number
      some_added w =
          ap (added before) (set_after (kind_is 3 w)) ∙ added_some (split_run (frame claim j) (length before.nodes)) before
          ∙ rw (split_is (frame_says e), ← t.nodes, ← t.root)

      all_added : word_at ws (3 * shape.nodes + j) ≡ 4
          → added before after ≡ run ++ neg (last k.nodes run) ∷ disj (k.nodes + length run) k.root ∷ []
      unfolding quantifier_of number
      all_added w =
          ap (added before) (set_after (kind_is 4 w)) ∙ added_all (split_run (frame claim j) (length before.nodes)) before
          ∙ rw (split_is (frame_says e), ← t.nodes, ← t.root)

      -- what is asked before a constraint is joined
      pub root_small : {l : List ℤ} {n : ℕ} → Room l k.nodes n → k.root ≤ max_number
      root_small room = omega (arith, rooted (j + 1), t.nodes, t.root, room.numbers)

      -- and what is known after it, the last node being the body
      done : {l l' : List ℤ} {r : kept.Body} (some : Bool) → quantifier claim j ≡ set_q some → WroteNodes l k.nodes (added before after) l' r.nodes
          → r.root ≡ r.nodes - 1 → Tells after r
      done {r = r} some q w root =
          let long : r.nodes ≡ length after.nodes =
          omega (arith, nodes_after w, t.nodes, ap length (closed_longer claim j in_claim), length-append before.nodes (added before after)) in
          record { nodes = long; root = root ∙ ap (λ m. m - 1) long ∙ sym (rw (set_after q) (join_root (frame claim j) some before)) }

      module _ (w : word_at ws (3 * shape.nodes + j) ≡ 3) where
        pub some_room : {l : List ℤ} → Room l k.nodes (length (added before after)) → Room l k.nodes (length run + 1)
        some_room room = room_part _ (omega (arith, ap length (some_added w), length-append run (conj (last k.nodes run) k.root ∷ []))) room

        pub some_done : {l l' : List ℤ} {r : kept.Body} → WroteNodes l k.nodes (run ++ conj (last k.nodes run) k.root ∷ []) l' r.nodes
            → r.root ≡ r.nodes - 1 → Tells after r × WroteNodes l k.nodes (added before after) l' r.nodes
        unfolding quantifier_of number
        some_done put root = let wrote = rw (← some_added w) at put in (done true (kind_is 3 w) wrote root, wrote)

      module _ (w : word_at ws (3 * shape.nodes + j) ≡ 4) where
        pub all_room : {l : List ℤ} → Room l k.nodes (length (added before after)) → Room l k.nodes (length run + 2)
        all_room room =
            room_part _ (omega (arith, ap length (all_added w), length-append run (neg (last k.nodes run) ∷ disj (k.nodes + length run) k.root ∷ []))) room

        pub all_done : {l l' : List ℤ} {r : kept.Body} → WroteNodes l k.nodes (run ++ neg (last k.nodes run) ∷ disj (k.nodes + length run) k.root ∷ []) l' r.nodes
            → r.root ≡ r.nodes - 1 → Tells after r × WroteNodes l k.nodes (added before after) l' r.nodes
        unfolding quantifier_of number
        all_done put root = let wrote = rw (← all_added w) at put in (done false (kind_is 4 w) wrote root, wrote)

    -- a quantifier that binds a number adds nothing
    pub number_done : {k : kept.Body} {l : List ℤ} (n : ℕ) → n ≡ word_at ws (3 * shape.nodes + j) → (3 ≤ n → n < 5 → ⊥) → Tells before k
        → Tells after k × WroteNodes l k.nodes (added before after) l k.nodes
    number_done {k} {l} n e none t = rw (number_after n e none, drop-length before.nodes) (t, nodes_none l k.nodes)
