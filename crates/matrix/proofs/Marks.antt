-- Marks of nodes, and the operands that are marked. Assumes nothing.
use mathlib.Core.Path.{◌≡◌, refl, sym, ap, ap₂, subst, ◌∙◌}
use mathlib.Core.Bool.{Bool, true, false, cond, true≢false}
use mathlib.Core.List.{List, [], ◌∷◌}
use Prim.Native.Nat.{ℕ, zero, suc, ◌+◌, ◌≤◌, ◌<◌}
use native.Mathlib.Omega.{arith}
use borrow.Author.Tests.{eqb-true, eqb-false}
use lib.Dec.{eqb}
use lib.IntN.{ℤ}
use lib.ListN.{length, get_or, set}
use lib.Seq.{get_or-set_same, get_or-set_other}
use Rattle.checker.specs.Claim.{unknown, Claim}
use Rattle.checker.specs.declared.Shape.{Shape}
use Rattle.std.proofs.Common.{Ok}
use Rattle.checker.specs.Words.{node_at, claim_of}
use Rattle.checker.specs.Check.{check_of}
use Rattle.checker.proofs.Claims.{node_at_lem, sound}
use Rattle.checker.specs.Sorts.{AllFit}
use Rattle.checker.specs.Search.{count}
use Rattle.checker.proofs.Search.{count_le}
use Rattle.matrix.specs.Work.{children, Every}
use Rattle.matrix.specs.Arranged.{marked, Marked}
use Rattle.matrix.proofs.Known.{children_below}

pub every_map : (P Q : ℕ → Type 0) → ((x : ℕ) → P x → Q x) → (l : List ℕ) → Every P l → Every Q l
every_map P Q f [] e = tt
every_map P Q f (x ∷ l) e = (f x e.0, every_map P Q f l e.1)

-- ---- one mark more

module _ (marks : List Bool) (i : ℕ) (h : i < length marks) where
  abbrev after : List Bool
  after = set marks i true

  pub mark_new : marked after i ≡ true
  mark_new = get_or-set_same marks i true false h

  pub mark_other : (x : ℕ) → (x ≡ i → ⊥) → marked after x ≡ marked marks x
  mark_other x n = get_or-set_other marks i x true false n

  pub mark_still : (x : ℕ) → marked marks x ≡ true → marked after x ≡ true
  mark_still x e = go (eqb x i) refl
    where
      go : (b : Bool) → eqb x i ≡ b → marked after x ≡ true
      go true t = subst (λ y. marked after y ≡ true) (sym (eqb-true x i t)) mark_new
      go false t = mark_other x (eqb-false x i t) ∙ e

-- ---- how many are marked

bit_le : (b : Bool) → cond b 1 0 ≤ 1
bit_le true = omega arith
bit_le false = omega arith

module _ (marks : List Bool) (i : ℕ) (h : i < length marks) (new : marked marks i ≡ false) where
  same_below : (n : ℕ) → n ≤ i → count (marked (set marks i true)) n ≡ count (marked marks) n
  unfolding count
  same_below zero l = refl
  same_below (suc n) l = ap₂ (λ c b. c + cond b 1 0) (same_below n (omega arith)) (mark_other marks i h n (λ e. omega arith))

  pub count_marked : (n : ℕ) → i < n → count (marked (set marks i true)) n ≡ count (marked marks) n + 1
  unfolding count
  count_marked zero l = absurd (omega arith)
  count_marked (suc n) l = go (eqb n i) refl (count_marked n)
    where
      go : (b : Bool) → eqb n i ≡ b → (i < n → count (marked (set marks i true)) n ≡ count (marked marks) n + 1)
          → count (marked (set marks i true)) n + cond (marked (set marks i true) n) 1 0 ≡ count (marked marks) n + cond (marked marks n) 1 0 + 1
      go true t r =
          let z : n ≡ i = eqb-true n i t in
          rw (z, mark_new marks i h, new, same_below i (omega arith)) (omega arith)
      go false t r =
          let z : n ≡ i → ⊥ = eqb-false n i t in
          rw (r (omega arith), mark_other marks i h n z) (omega arith)

  -- a node that is not marked is one that the others leave
  pub count_room : (n : ℕ) → i < n → count (marked marks) n < n
  unfolding count
  count_room zero l = absurd (omega arith)
  count_room (suc n) l = go (eqb n i) refl (count_room n)
    where
      go : (b : Bool) → eqb n i ≡ b → (i < n → count (marked marks) n < n) → count (marked marks) n + cond (marked marks n) 1 0 < suc n
      go true t r =
          let z : n ≡ i = eqb-true n i t in
          rw (z, new) (omega (arith, count_le (marked marks) i))
      go false t r =
          let z : n ≡ i → ⊥ = eqb-false n i t in
          omega (arith, r (omega arith), bit_le (marked marks n))

-- ---- the children of a node in accepted words

module _ (ws : List ℤ) (s : Shape) (e : check_of ws ≡ Ok s) (i : ℕ) (h : i < s.nodes) where
  pub node_is : get_or (claim_of ws).nodes i unknown ≡ node_at ws i
  node_is = node_at_lem ws i (omega (arith, (sound ws s e).nodes))

  -- they are earlier nodes
  pub children_within : (n : ℕ) → i ≤ n → (l : List ℕ) → l ≡ children (node_at ws i) → Every (λ x. x < n) l
  children_within n k l z =
      rw (z, ← node_is)
      (every_map (λ x. x < i) (λ x. x < n) (λ x m. omega arith) (children (get_or (claim_of ws).nodes i unknown))
      (children_below (claim_of ws) (sound ws s e).sorted.0 i (omega (arith, (sound ws s e).nodes))))

-- ---- the nodes that are needed, from the last node down

-- the children of each marked node from i on are marked
abbrev pub ClosedFrom : Claim → List Bool → ℕ → Type 0
ClosedFrom c marks i = (x : ℕ) → i ≤ x → x < length c.nodes → marked marks x ≡ true → Every (λ y. marked marks y ≡ true) (children (get_or c.nodes x unknown))

module _ (c : Claim) (sorted : AllFit c.quantifiers [] c.nodes) (marks : List Bool) (i : ℕ) (h : i < length c.nodes) (u : ClosedFrom c marks (i + 1)) where
  -- node i is not marked
  pub closed_skip : marked marks i ≡ false → ClosedFrom c marks i
  closed_skip e x l m t = go (eqb x i) refl
    where
      go : (b : Bool) → eqb x i ≡ b → Every (λ y. marked marks y ≡ true) (children (get_or c.nodes x unknown))
      go true z = absurd (true≢false (sym t ∙ ap (marked marks) (eqb-true x i z) ∙ e))
      go false z = u x (omega (arith, eqb-false x i z)) m t

  -- its children are marked
  pub closed_more : (after : List Bool) → Marked marks (children (get_or c.nodes i unknown)) after → ClosedFrom c after i
  closed_more after w x l m t = go (eqb x i) refl
    where
      go : (b : Bool) → eqb x i ≡ b → Every (λ y. marked after y ≡ true) (children (get_or c.nodes x unknown))
      go true z = rw (eqb-true x i z) w.now_marked
      go false z =
          let above : i < x = omega (arith, eqb-false x i z) in
          let low : Every (λ y. y < x) (children (get_or c.nodes i unknown)) =
          every_map (λ y. y < i) (λ y. y < x) (λ y k. omega arith) (children (get_or c.nodes i unknown)) (children_below c sorted i h) in
          every_map (λ y. marked marks y ≡ true) (λ y. marked after y ≡ true) (λ y e. w.still y e) (children (get_or c.nodes x unknown))
          (u x (omega arith) m (sym (w.others x low) ∙ t))
