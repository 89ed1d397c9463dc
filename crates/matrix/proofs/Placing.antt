-- The order, made by placing one node after the other: what stands after each, and after a pass over all nodes. Assumes nothing.
use mathlib.Core.Path.{◌≡◌, refl, sym, ap, subst, ◌∙◌}
use mathlib.Core.Bool.{Bool, true, false, true≢false}
use mathlib.Core.List.{List, [], ◌∷◌}
use Prim.Native.Nat.{ℕ, zero, suc, ◌+◌, ◌^◌, ◌≤◌, ◌<◌, zero-le}
use native.Mathlib.Omega.{arith}
use borrow.Author.Tests.{eqb-true, eqb-false, ltb-true, ltb-false, le-ltb}
use lib.Dec.{eqb, ltb}
use lib.ListN.{length, get_or, set, replicate, length-set}
use lib.Seq.{get_or-set_same, get_or-set_other}
use Rattle.checker.specs.Claim.{unknown, Claim}
use Rattle.checker.specs.Sorts.{AllFit, sets}
use Rattle.checker.specs.Search.{count}
use Rattle.checker.proofs.Search.{count_le}
use Rattle.region.specs.Regions.{regions}
use Rattle.region.specs.Pattern.{covers_at, End}
use Rattle.matrix.specs.Entry.{Filled}
use Rattle.matrix.specs.Work.{children, Every}
use Rattle.matrix.specs.Order.{Has}
use Rattle.matrix.specs.Arranged.{marked, Closed, Placed, Placeable, Passed, Ranked}
use Rattle.matrix.specs.Known.{Scheduled}
use Rattle.matrix.proofs.Known.{children_below}
use Rattle.matrix.proofs.Marks.{every_map, mark_new, mark_other, mark_still, count_marked, count_room}

-- ---- one place more

module _ (c : Claim) (marks : List Bool) (order : List ℕ) (n : ℕ) (p : Placed c marks order n) (i : ℕ) (node : i < length c.nodes) (inside : i < length marks)
    (new : marked marks i ≡ false) where
  -- there are fewer places than nodes
  pub place_room : n < length c.nodes
  place_room = omega (arith, p.many, count_room marks i inside new (length c.nodes) node)

  module _ (room : n < length order) where
    abbrev after : List ℕ
    after = set order n i

    last : get_or after n 0 ≡ i
    last = get_or-set_same order n i 0 room

    same : (k : ℕ) → k < n → get_or after k 0 ≡ get_or order k 0
    same k h = get_or-set_other order n k i 0 (λ e. omega arith)

    had : (k x : ℕ) → k ≤ n → Has order k x → Has after k x
    had k x h (j, l, e) = (j, l, same j (omega arith) ∙ e)

    -- the last place, or one before
    module _ (P : ℕ → ℕ → Type 0) (new-one : P n i) (old : (k : ℕ) → k < n → P k (get_or order k 0)) where
      at_place : (k : ℕ) → k < n + 1 → P k (get_or after k 0)
      at_place k h = go (eqb k n) refl
        where
          go : (b : Bool) → eqb k n ≡ b → P k (get_or after k 0)
          go true e = let z : k ≡ n = eqb-true k n e in rw (z, last) new-one
          go false e = let z : k < n = omega (arith, eqb-false k n e) in rw (same k z) (old k z)

    pub placed_next : Every (λ x. marked marks x ≡ true) (children (get_or c.nodes i unknown)) → Placed c (set marks i true) after (n + 1)
    placed_next ready = record {
      ordered = record {
        long = omega (arith, length-set order n i);
        nodes = at_place (λ k x. x < length c.nodes) node p.ordered.nodes;
        once = λ j k l h. apart j k l h (eqb k n) refl;
        after = at_place (λ k x. Every (Has after k) (children (get_or c.nodes x unknown)))
            (every_map (λ x. marked marks x ≡ true) (Has after n) (λ x e. had n x (omega arith) (p.all x e)) (children (get_or c.nodes i unknown)) ready)
            (λ k h. every_map (Has order k) (Has after k) (λ x e. had k x (omega arith) e) (children (get_or c.nodes (get_or order k 0) unknown)) (p.ordered.after k h));
      };
      all = λ x e. found x e (eqb x i) refl;
      only = at_place (λ k x. marked (set marks i true) x ≡ true) (mark_new marks i inside) (λ k h. mark_still marks i inside (get_or order k 0) (p.only k h));
      many = ap (λ m. m + 1) p.many ∙ sym (count_marked marks i inside new (length c.nodes) node);
    }
      where
        apart : (j k : ℕ) → j < k → k < n + 1 → (b : Bool) → eqb k n ≡ b → get_or after j 0 ≡ get_or after k 0 → ⊥
        apart j k l h true e q =
            let z : k ≡ n = eqb-true k n e in
            let w : get_or order j 0 ≡ i = sym (same j (omega arith)) ∙ q ∙ ap (λ m. get_or after m 0) z ∙ last in
            true≢false (sym (p.only j (omega arith)) ∙ ap (marked marks) w ∙ new)
        apart j k l h false e q =
            let z : k < n = omega (arith, eqb-false k n e) in
            p.ordered.once j k l z (sym (same j (omega arith)) ∙ q ∙ same k z)

        found : (x : ℕ) → marked (set marks i true) x ≡ true → (b : Bool) → eqb x i ≡ b → Has after (n + 1) x
        found x e true z = (n, omega arith, last ∙ sym (eqb-true x i z))
        found x e false z =
            let h = p.all x (sym (mark_other marks i inside x (eqb-false x i z)) ∙ e) in
            let k = had n x (omega arith) h in
            (k.0, omega (arith, k.1), k.2)

-- ---- a pass over the nodes, of which those before i are passed

module _ (c : Claim) (needed : List Bool) (reach : List ℕ) (m : ℕ) (before : List ℕ) (n : ℕ) where
  pub record Passing (placed : List Bool) (order : List ℕ) (n' i : ℕ) : Type 0 where
    pub more : n ≤ n'
    pub kept : (k : ℕ) → k < n → get_or order k 0 ≡ get_or before k 0
    pub settled : (k : ℕ) → n ≤ k → k < n' → get_or reach (get_or order k 0) 0 ≤ m
    pub all : ((j : ℕ) → j < length c.nodes → get_or reach j 0 ≤ m) → (x : ℕ) → x < i → marked needed x ≡ true → marked placed x ≡ true

  pub passed : (placed : List Bool) (order : List ℕ) (n' i : ℕ) → length c.nodes ≤ i → Passing placed order n' i → Passed c needed reach m before n placed order n'
  passed placed order n' i h p = record { more = p.more; kept = p.kept; settled = p.settled; all = λ f x l e. p.all f x (omega arith) e }

  module _ (placed : List Bool) (order : List ℕ) (n' i : ℕ) (p : Passing placed order n' i) where
    -- node i is placed
    pub passing_place : i < length placed → n' < length order → Placeable c needed placed reach m i → Passing (set placed i true) (set order n' i) (n' + 1) (i + 1)
    passing_place inside room q = record {
      more = omega (arith, p.more);
      kept = λ k h. get_or-set_other order n' k i 0 (λ e. omega (arith, p.more)) ∙ p.kept k h;
      settled = λ k l h. low k l h (eqb k n') refl;
      all = λ f x h e. marks f x h e (eqb x i) refl;
    }
      where
        low : (k : ℕ) → n ≤ k → k < n' + 1 → (b : Bool) → eqb k n' ≡ b → get_or reach (get_or (set order n' i) k 0) 0 ≤ m
        low k l h true e = let z : k ≡ n' = eqb-true k n' e in rw (z, get_or-set_same order n' i 0 room) q.settled
        low k l h false e = let z : k ≡ n' → ⊥ = eqb-false k n' e in rw (get_or-set_other order n' k i 0 z) (p.settled k l (omega arith))

        marks : ((j : ℕ) → j < length c.nodes → get_or reach j 0 ≤ m) → (x : ℕ) → x < i + 1 → marked needed x ≡ true → (b : Bool) → eqb x i ≡ b → marked (set placed i true) x ≡ true
        marks f x h e true z = let y : x ≡ i = eqb-true x i z in rw y (mark_new placed i inside)
        marks f x h e false z = let y : x ≡ i → ⊥ = eqb-false x i z in mark_still placed i inside x (p.all f x (omega arith) e)

    -- node i is left
    pub passing_skip : AllFit c.quantifiers [] c.nodes → Closed c needed → i < length c.nodes → (Placeable c needed placed reach m i → ⊥) → Passing placed order n' (i + 1)
    passing_skip sorted closed inside cannot = record { more = p.more; kept = p.kept; settled = p.settled; all = λ f x h e. marks f x h e (eqb x i) refl }
      where
        -- a node that is needed and settled has its children placed, so that only a placed one is left
        stands : ((j : ℕ) → j < length c.nodes → get_or reach j 0 ≤ m) → marked needed i ≡ true → (b : Bool) → marked placed i ≡ b → b ≡ true
        stands f e true t = refl
        stands f e false t =
            absurd (cannot (record {
              wanted = e;
              new = t;
              settled = f i inside;
              ready = every_both (children (get_or c.nodes i unknown)) (λ x l w. p.all f x l w) (children_below c sorted i inside) (closed.children_too i inside e);
            }))
          where
            every_both : (l : List ℕ) → ((x : ℕ) → x < i → marked needed x ≡ true → marked placed x ≡ true) → Every (λ x. x < i) l → Every (λ x. marked needed x ≡ true) l
                → Every (λ x. marked placed x ≡ true) l
            every_both [] g u w = tt
            every_both (x ∷ l) g u w = (g x u.0 w.0, every_both l g u.1 w.1)

        marks : ((j : ℕ) → j < length c.nodes → get_or reach j 0 ≤ m) → (x : ℕ) → x < i + 1 → marked needed x ≡ true → (b : Bool) → eqb x i ≡ b → marked placed x ≡ true
        marks f x h e true z = let y : x ≡ i = eqb-true x i z in rw y (stands f (subst (λ k. marked needed k ≡ true) y e) (marked placed i) refl)
        marks f x h e false z = let y : x ≡ i → ⊥ = eqb-false x i z in p.all f x (omega arith) e

-- ---- pass after pass, of which those for fewer than m first regions are done

module _ (c : Claim) (needed : List Bool) (reach : List ℕ) (regions : ℕ) where
  pub record Ranking (placed : List Bool) (order : List ℕ) (n : ℕ) (upto : List ℕ) (m : ℕ) : Type 0 where
    pub most : (q : ℕ) → q < m → get_or upto q 0 ≤ n
    pub low : (k : ℕ) → k < n → get_or reach (get_or order k 0) 0 < m
    pub settled : (q : ℕ) → q < m → (k : ℕ) → k < get_or upto q 0 → get_or reach (get_or order k 0) 0 ≤ q
    pub all : regions < m → ((i : ℕ) → i < length c.nodes → get_or reach i 0 ≤ regions) → (i : ℕ) → i < length c.nodes → marked needed i ≡ true → marked placed i ≡ true

  pub ranking_none : (placed : List Bool) (order upto : List ℕ) → Ranking placed order 0 upto 0
  ranking_none placed order upto = record {
    most = λ q h. absurd (omega arith);
    low = λ k h. absurd (omega arith);
    settled = λ q h. absurd (omega arith);
    all = λ h. absurd (omega arith);
  }

  pub ranked : (placed : List Bool) (order : List ℕ) (n : ℕ) (upto : List ℕ) (m : ℕ) → regions < m → Ranking placed order n upto m → Ranked c needed placed reach order n upto regions
  ranked placed order n upto m h r = record { most = λ q l. r.most q (omega arith); settled = λ q l. r.settled q (omega arith); all = r.all h }

  module _ (placed : List Bool) (order : List ℕ) (n : ℕ) (upto : List ℕ) (m : ℕ) (r : Ranking placed order n upto m)
      (placed' : List Bool) (order' : List ℕ) (n' : ℕ) (p : Passed c needed reach m order n placed' order' n') (room : m < length upto) (within : m ≤ regions) where
    pub ranking_next : Ranking placed' order' n' (set upto m n') (m + 1)
    ranking_next = record {
      most = λ q h. few q h (eqb q m) refl;
      low = λ k h. omega (arith, below k h);
      settled = λ q h. early q h (eqb q m) refl;
      all = λ h f. p.all (λ i l. omega (arith, f i l));
    }
      where
        few : (q : ℕ) → q < m + 1 → (b : Bool) → eqb q m ≡ b → get_or (set upto m n') q 0 ≤ n'
        few q h true e = let z : q ≡ m = eqb-true q m e in rw (z, get_or-set_same upto m n' 0 room) (omega arith)
        few q h false e =
            let z : q ≡ m → ⊥ = eqb-false q m e in
            rw (get_or-set_other upto m q n' 0 z) (omega (arith, r.most q (omega arith), p.more))

        -- a place from before, or a new one
        below : (k : ℕ) → k < n' → get_or reach (get_or order' k 0) 0 ≤ m
        below k h = go (ltb k n) refl
          where
            go : (b : Bool) → ltb k n ≡ b → get_or reach (get_or order' k 0) 0 ≤ m
            go true e = let z : k < n = ltb-true k n e in rw (p.kept k z) (omega (arith, r.low k z))
            go false e = p.settled k (ltb-false k n e) h

        early : (q : ℕ) → q < m + 1 → (b : Bool) → eqb q m ≡ b → (k : ℕ) → k < get_or (set upto m n') q 0 → get_or reach (get_or order' k 0) 0 ≤ q
        early q h true e k l =
            let z : q ≡ m = eqb-true q m e in
            let y : get_or (set upto m n') q 0 ≡ n' = ap (λ x. get_or (set upto m n') x 0) z ∙ get_or-set_same upto m n' 0 room in
            rw z (below k (omega arith))
        early q h false e k l =
            let z : q ≡ m → ⊥ = eqb-false q m e in
            let y : get_or (set upto m n') q 0 ≡ get_or upto q 0 = get_or-set_other upto m q n' 0 z in
            rw (p.kept k (omega (arith, r.most q (omega arith)))) (r.settled q (omega arith) k (omega arith))

-- ---- nothing placed yet

none_marked : (n i : ℕ) → marked (replicate n false) i ≡ false
none_marked zero i = refl
none_marked (suc n) zero = refl
none_marked (suc n) (suc i) = none_marked n i

none_counted : (n k : ℕ) → count (marked (replicate n false)) k ≡ 0
unfolding count
none_counted n zero = refl
none_counted n (suc k) = rw (none_marked n k, none_counted n k)

pub placed_none : (c : Claim) (n : ℕ) (order : List ℕ) → Placed c (replicate n false) order 0
placed_none c n order = record {
  ordered = record { long = zero-le; nodes = λ k h. absurd (omega arith); once = λ j k l h. absurd (omega arith); after = λ k h. absurd (omega arith) };
  all = λ i e. absurd (true≢false (sym e ∙ none_marked n i));
  only = λ k h. absurd (omega arith);
  many = sym (none_counted n (length c.nodes));
}

-- ---- what the passes come to

module _ (c : Claim) (patterns : List ℕ) (filled : Filled c (length c.nodes) patterns) where
  -- no entry covers a region that there is not
  past : (i r : ℕ) → i < length c.nodes → 2 ^ sets c.quantifiers ≤ r → covers_at patterns i r ≡ false
  past i r h l = rw (filled.entry (regions []) i h r, le-ltb r (2 ^ sets c.quantifiers) l)

  reaches : (i e : ℕ) → i < length c.nodes → End (covers_at patterns i) e → e ≤ 2 ^ sets c.quantifiers
  reaches i e h u = go e refl
    where
      go : (k : ℕ) → k ≡ e → k ≤ 2 ^ sets c.quantifiers
      go zero z = zero-le
      go (suc r) z = at (ltb r (2 ^ sets c.quantifiers)) refl
        where
          at : (b : Bool) → ltb r (2 ^ sets c.quantifiers) ≡ b → suc r ≤ 2 ^ sets c.quantifiers
          at true t = ltb-true r (2 ^ sets c.quantifiers) t
          at false t = absurd (true≢false (sym (u.last r (omega arith)) ∙ past i r h (ltb-false r (2 ^ sets c.quantifiers) t)))

  module _ (needed placed : List Bool) (reach order : List ℕ) (n : ℕ) (upto : List ℕ) (known : (i : ℕ) → i < length c.nodes → End (covers_at patterns i) (get_or reach i 0))
      (p : Placed c placed order n) (r : Ranked c needed placed reach order n upto (2 ^ sets c.quantifiers)) where
    pub scheduled : Scheduled patterns (2 ^ sets c.quantifiers) order n upto
    scheduled m h = (
      r.most m h,
      λ j _ l q k.
          let below : get_or order j 0 < length c.nodes = p.ordered.nodes j (omega (arith, r.most m h)) in
          (known (get_or order j 0) below).past q (omega (arith, r.settled m h j l)),
    )

    pub root_placed : Closed c needed → c.root < length c.nodes → Has order n c.root
    root_placed closed h = p.all c.root (r.all (λ i l. reaches i (get_or reach i 0) l (known i l)) c.root h closed.root)

    pub placed_few : n ≤ length c.nodes
    placed_few = omega (arith, p.many, count_le (marked placed) (length c.nodes))
