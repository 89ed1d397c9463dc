-- Which set a split belongs to, as the table is filled set by set. Assumes nothing.
use mathlib.Core.Path.{◌≡◌, refl, sym, ap, ◌∙◌}
use mathlib.Core.Bool.{Bool, true, false, false≢true}
use mathlib.Core.List.{List, [], ◌∷◌, ◌++◌}
use Prim.Native.Nat.{ℕ, zero, suc, ◌+◌, ◌-◌, ◌*◌, ◌^◌, ◌≤◌, ◌<◌}
use native.Mathlib.Nat.{pow-suc, pow-le-pow_right}
use native.Mathlib.Numerals.{add-one}
use native.Mathlib.Omega.{arith}
use borrow.Author.Tests.{lt-ltb, le-ltb}
use lib.Dec.{T, eqb}
use lib.IntN.{ℤ}
use native.Mathlib.Decide.{dec_lt}
use lib.ListN.{length, get_or, take, drop, replicate}
use lib.Seq.{drop-cons, get_or-take, length-take-le}
use Rattle.std.proofs.lemmas.List.{get_or_append_left, get_or-append_right, get_or-replicate}
use Rattle.checker.specs.Claim.{Quantifier, int_q, set_q, count_q}
use Rattle.checker.specs.Kinds.{number, quantifier_of}
use Rattle.checker.specs.Words.{word, word_at, nodes_in, claim_of}
use Rattle.checker.specs.Sorts.{is_set_q, sets}
use Rattle.checker.proofs.Claims.{quantifier_in}
use Rattle.decider.specs.Plan.{some_at, only_sets}
use Rattle.decider.specs.Standing.{Somes}

abbrev pub is_some : Quantifier → Bool
is_some (int_q some) = some
is_some (set_q some) = some
is_some (count_q some) = some

-- The kinds of set quantifiers are 3, an exists, and 4.
set_kind : (z : ℤ) → is_set_q (quantifier_of z) ≡ true → eqb (number z) 3 ≡ is_some (quantifier_of z)
unfolding quantifier_of
set_kind z e = go (number z) e
  where
    go : (k : ℕ) → is_set_q (get_or (int_q true ∷ int_q true ∷ int_q false ∷ set_q true ∷ set_q false ∷ count_q true ∷ count_q false ∷ []) k (int_q true)) ≡ true
        → eqb k 3 ≡ is_some (get_or (int_q true ∷ int_q true ∷ int_q false ∷ set_q true ∷ set_q false ∷ count_q true ∷ count_q false ∷ []) k (int_q true))
    go zero e = absurd (false≢true e)
    go (suc zero) e = absurd (false≢true e)
    go (suc (suc zero)) e = absurd (false≢true e)
    go (suc (suc (suc zero))) e = refl
    go (suc (suc (suc (suc zero)))) e = refl
    go (suc (suc (suc (suc (suc zero))))) e = absurd (false≢true e)
    go (suc (suc (suc (suc (suc (suc zero)))))) e = absurd (false≢true e)
    go (suc (suc (suc (suc (suc (suc (suc k))))))) e = absurd (false≢true e)

pub only_at : (qs : List Quantifier) → T (only_sets qs) → (q : ℕ) → q < length qs → is_set_q (get_or qs q (int_q true)) ≡ true
unfolding only_sets
only_at [] o q l = absurd (omega arith)
only_at (int_q some ∷ qs) o q l = absurd o
only_at (set_q some ∷ qs) o zero l = refl
only_at (set_q some ∷ qs) o (suc q) l = only_at qs o q (omega arith)
only_at (count_q some ∷ qs) o q l = absurd o

pub sets_all : (qs : List Quantifier) → T (only_sets qs) → sets qs ≡ length qs
unfolding only_sets sets
sets_all [] o = refl
sets_all (int_q some ∷ qs) o = absurd o
sets_all (set_q some ∷ qs) o = ap suc (sets_all qs o)
sets_all (count_q some ∷ qs) o = absurd o

-- The first set of qs splits the regions from n to 2 n - 1, and the others those after them.
set_here : (x : Quantifier) (qs : List Quantifier) (n h : ℕ) → is_set_q x ≡ true → h < n + n → some_at (x ∷ qs) n h ≡ is_some x
unfolding some_at
set_here (int_q some) qs n h e l = absurd (false≢true e)
set_here (set_q some) qs n h e l = rw (lt-ltb h (n + n) l)
set_here (count_q some) qs n h e l = absurd (false≢true e)

set_past : (x : Quantifier) (qs : List Quantifier) (n h : ℕ) → is_set_q x ≡ true → n + n ≤ h → some_at (x ∷ qs) n h ≡ some_at qs (n + n) h
unfolding some_at
set_past (int_q some) qs n h e l = absurd (false≢true e)
set_past (set_q some) qs n h e l = rw (le-ltb h (n + n) l)
set_past (count_q some) qs n h e l = absurd (false≢true e)

-- The first q sets have split the regions below n.
pub record Level (qs : List Quantifier) (q n : ℕ) : Type 0 where
  pub power : n ≡ 2 ^ q
  pub later : (h : ℕ) → n ≤ h → some_at qs 1 h ≡ some_at (drop q qs) n h

pub level_none : (qs : List Quantifier) → Level qs 0 1
level_none qs = record { power = refl; later = λ h l. refl }

-- There is room to split the regions of one more quantifier.
pub level_room : {qs : List Quantifier} {q n all room : ℕ} → Level qs q n → q < all → 2 ^ all ≤ room → n + n ≤ room
level_room {q = q} {all = all} v l long =
    let grown : 2 ^ suc q ≤ 2 ^ all = pow-le-pow_right (omega arith) l in
    omega (arith, v.power, grown, pow-suc 2 q)

module _ (qs : List Quantifier) (o : T (only_sets qs)) (q n : ℕ) (l : q < length qs) (v : Level qs q n) where
  next_set : (h : ℕ) → n ≤ h → some_at qs 1 h ≡ some_at (get_or qs q (int_q true) ∷ drop (suc q) qs) n h
  next_set h a = v.later h a ∙ ap (λ l. some_at l n h) (drop-cons qs q (int_q true) l)

  pub level_here : (h : ℕ) → n ≤ h → h < n + n → some_at qs 1 h ≡ is_some (get_or qs q (int_q true))
  level_here h a b = next_set h a ∙ set_here (get_or qs q (int_q true)) (drop (suc q) qs) n h (only_at qs o q l) b

  pub level_more : Level qs (q + 1) (n + n)
  level_more =
      record {
        power = rw (add-one q, pow-suc 2 q, ← v.power) (omega arith);
        later = λ h a. next_set h (omega arith) ∙ set_past (get_or qs q (int_q true)) (drop (suc q) qs) n h (only_at qs o q l) a ∙ ap (λ j. some_at (drop j qs) (n + n) h) (sym (add-one q));
      }

-- ---- the table of splits

-- The word of quantifier q, where all are sets and there are n nodes, says whether it is an exists.
pub exists_at : (ws : List ℤ) → T (only_sets (claim_of ws).quantifiers) → (n q : ℕ) → n ≡ nodes_in ws → q < length (claim_of ws).quantifiers
    → eqb (word_at ws (3 * n + q)) 3 ≡ is_some (get_or (claim_of ws).quantifiers q (int_q true))
unfolding word_at
exists_at ws o n q e l =
    let read = quantifier_in ws q l in
    rw (e, read) (set_kind (word ws (3 * nodes_in ws + q)) (rw read at (only_at (claim_of ws).quantifiers o q l)))

-- One more set's entries are stored.
pub somes_more : (qs : List Quantifier) → T (only_sets qs) → (q n : ℕ) → q < length qs → Level qs q n → (before after : List Bool) (some : Bool)
    → Somes before qs n → n ≤ length before → take (n + n) after ≡ take n before ++ replicate n some
    → some ≡ is_some (get_or qs q (int_q true)) → Somes after qs (n + n)
somes_more qs o q n l v before after some known room stored e h a b =
    sym (get_or-take (n + n) after h false b) ∙ ap (λ l. get_or l h false) stored ∙ go (dec_lt h n)
  where
    go : Dec (h < n) → get_or (take n before ++ replicate n some) h false ≡ some_at qs 1 h
    go (yes c) = get_or_append_left (take n before) (replicate n some) false h (omega (arith, length-take-le n before room)) ∙ get_or-take n before h false c ∙ known h a c
    go (no c) =
        get_or-append_right (take n before) (replicate n some) n h false (length-take-le n before room) (omega arith)
        ∙ get_or-replicate n (h - n) some false (omega arith) ∙ e ∙ sym (level_here qs o q n l v h (omega arith) b)
