-- What a node is by the number of its kind, as the code tells kinds apart. Assumes nothing.
use mathlib.Core.Path.{◌≡◌, refl}
use mathlib.Core.Bool.{Bool, true, false, not, cond, xor, ◌&&◌, ◌||◌}
use mathlib.Core.List.{List, [], ◌∷◌}
use Prim.Native.Nat.{ℕ, ◌+◌, ◌*◌}
use native.Mathlib.Omega.{arith}
use borrow.Author.Tests.{eqb-true, eqb-false}
use Rattle.std.proofs.Common.{rules}
use Rattle.std.proofs.lemmas.Bool.Decides.{nat_tests}
use lib.Dec.{eqb}
use lib.IntN.{ℤ, pos, nat_abs, ◌+ℤ◌, ◌-ℤ◌, ◌*ℤ◌}
use lib.Signed.{lt_z}
use lib.ListN.{get_or}
use Rattle.checker.specs.Claim.{Node, unknown, Quantifier}
use Rattle.checker.specs.declared.Sort.TheVariants.{ASet}
use Rattle.checker.specs.Sorts.{Is, Binds, Fits}
use Rattle.checker.specs.Meaning.{Set, Value, set_at, divides, eq_z}
use Rattle.matrix.specs.Entry.{entry_of}
use Rattle.checker.specs.Kinds.{number, Entry, sort_table, entry_in, node_of}
use Rattle.checker.specs.Words.{word, word_at, node_at}
use Rattle.matrix.specs.Bound.{bound_of}
use Rattle.matrix.specs.Work.{children, bit_z, says, work}

-- ---- what holds of each row of the sort table holds of every node that words are read as

-- Q of each kind and the node that it makes of the words a and b
abbrev pub AllRows : (ℕ → Node → Type 0) → ℤ → ℤ → List Entry → Type 0
AllRows Q a b [] = Unit {0}
AllRows Q a b (e ∷ es) = Q e.kind (e.node a b) × AllRows Q a b es

-- k is no row's kind
abbrev pub Absent : List Entry → ℕ → Type 0
Absent [] k = Unit {0}
Absent (e ∷ es) k = (e.kind ≡ k → ⊥) × Absent es k

module _ (Q : ℕ → Node → Type 0) (a b : ℤ) (k : ℕ) where
  in_rows : (es : List Entry) → AllRows Q a b es → (Absent es k → Q k unknown) → Q k ((entry_in es k).node a b)
  in_rows [] q none = none tt
  in_rows (e ∷ es) (h, q) none = go (eqb e.kind k) refl (λ n. in_rows es q (λ m. none (n, m)))
    where
      go : (t : Bool) → eqb e.kind k ≡ t → ((e.kind ≡ k → ⊥) → Q k ((entry_in es k).node a b)) → Q k ((cond t e (entry_in es k)).node a b)
      go true p r = let z : e.kind ≡ k = eqb-true e.kind k p in rw (← z) h
      go false p r = r (eqb-false e.kind k p)

pub in_table : (Q : ℕ → Node → Type 0) (z a b : ℤ) → AllRows Q a b sort_table → (Absent sort_table (number z) → Q (number z) unknown) → Q (number z) (node_of z a b)
unfolding node_of
in_table Q z a b q none = in_rows Q a b (number z) sort_table q none

-- ---- children

abbrev pub children_by : ℕ → ℕ → ℕ → List ℕ
children_by k a b =
    cond (eqb k 13 || (eqb k 14 || (eqb k 20 || (eqb k 21 || (eqb k 25 || eqb k 26))))) (a ∷ b ∷ [])
    (cond (eqb k 15 || eqb k 22) (b ∷ []) (cond (eqb k 27) (a ∷ []) []))

children_in : (z a b : ℤ) → children (node_of z a b) ≡ children_by (number z) (number a) (number b)
unfolding children
children_in z a b =
    in_table (λ k n. children n ≡ children_by k (number a) (number b)) z a b
    (search rules)
    (λ n. grind (arith, nat_tests))

pub children_at : (ws : List ℤ) (i : ℕ) → children (node_at ws i) ≡ children_by (word_at ws (3 * i)) (word_at ws (3 * i + 1)) (word_at ws (3 * i + 2))
unfolding word_at
children_at ws i = children_in (word ws (3 * i)) (word ws (3 * i + 1)) (word ws (3 * i + 2))

-- ---- bounds

abbrev pub bound_by : ℕ → List ℕ → ℕ → ℤ → ℕ → ℕ → ℕ
bound_by N bs k c a b =
    cond (eqb k 11) (nat_abs c)
    (cond (eqb k 12 || eqb k 16) N
    (cond (eqb k 13 || eqb k 14) (get_or bs a 0 + get_or bs b 0) (cond (eqb k 15) (nat_abs c * get_or bs b 0) 0)))

bound_in : (N : ℕ) (bs : List ℕ) (z a b : ℤ) → bound_of N bs (node_of z a b) ≡ bound_by N bs (number z) a (number a) (number b)
unfolding bound_of
bound_in N bs z a b =
    in_table (λ k n. bound_of N bs n ≡ bound_by N bs k a (number a) (number b)) z a b
    (search rules)
    (λ n. grind (arith, nat_tests))

pub bound_is : (N : ℕ) (bs : List ℕ) (ws : List ℤ) (i : ℕ)
    → bound_of N bs (node_at ws i) ≡ bound_by N bs (word_at ws (3 * i)) (word ws (3 * i + 1)) (word_at ws (3 * i + 1)) (word_at ws (3 * i + 2))
unfolding word_at
bound_is N bs ws i = bound_in N bs (word ws (3 * i)) (word ws (3 * i + 1)) (word ws (3 * i + 2))

-- ---- operands that are sets

abbrev pub two_sets : ℕ → Bool
two_sets k = eqb k 4 || (eqb k 5 || (eqb k 23 || eqb k 24))

abbrev pub one_set : ℕ → Bool
one_set k = eqb k 6 || eqb k 16

pub two_in : (qs : List Quantifier) (done : List Node) (z a b : ℤ) → Fits qs done (node_of z a b) → two_sets (number z) ≡ true
    → Is ASet done (number a) × Is ASet done (number b)
two_in qs done z a b =
    in_table (λ k n. Fits qs done n → two_sets k ≡ true → Is ASet done (number a) × Is ASet done (number b)) z a b (search rules) (λ n f. absurd f)

pub one_in : (qs : List Quantifier) (done : List Node) (z a b : ℤ) → Fits qs done (node_of z a b) → one_set (number z) ≡ true → Is ASet done (number a)
one_in qs done z a b =
    in_table (λ k n. Fits qs done n → one_set k ≡ true → Is ASet done (number a)) z a b (search rules) (λ n f. absurd f)

pub set_in : (qs : List Quantifier) (done : List Node) (z a b : ℤ) → Fits qs done (node_of z a b) → number z ≡ 1 → Binds true qs (number a)
set_in qs done z a b =
    in_table (λ k n. Fits qs done n → k ≡ 1 → Binds true qs (number a)) z a b (search rules) (λ n f. absurd f)

-- ---- what an entry has to cover

abbrev pub entry_by : List Value → List Value → ℕ → ℕ → ℕ → Set
entry_by qs vs k a b r =
    cond (eqb k 1) (set_at qs a r)
    (cond (eqb k 3) true
    (cond (eqb k 4) (set_at vs a r || set_at vs b r)
    (cond (eqb k 5) (set_at vs a r && set_at vs b r)
    (cond (eqb k 6) (not (set_at vs a r))
    (cond (eqb k 16) (set_at vs a r)
    (cond (eqb k 23) (xor (set_at vs a r) (set_at vs b r)) (cond (eqb k 24) (set_at vs a r && not (set_at vs b r)) false)))))))

pub entry_in_lem : (qs vs : List Value) (z a b : ℤ) (r : ℕ) → entry_of qs vs (node_of z a b) r ≡ entry_by qs vs (number z) (number a) (number b) r
unfolding entry_of
entry_in_lem qs vs z a b r =
    in_table (λ k n. entry_of qs vs n r ≡ entry_by qs vs k (number a) (number b) r) z a b (search rules) (λ n. grind (arith, nat_tests))

-- ---- numbers

abbrev pub work_by : ℕ → ℕ → List ℤ → ℕ → ℤ → ℤ → ℤ
work_by N p xs k a b =
    cond (eqb k 11) a
    (cond (eqb k 12) (pos N)
    (cond (eqb k 13) (word xs (number a) +ℤ word xs (number b))
    (cond (eqb k 14) (word xs (number a) -ℤ word xs (number b))
    (cond (eqb k 15) (a *ℤ word xs (number b))
    (cond (eqb k 16) (pos p)
    (cond (eqb k 20) (bit_z (eq_z (word xs (number a)) (word xs (number b))))
    (cond (eqb k 21) (bit_z (lt_z (word xs (number a)) (word xs (number b))))
    (cond (eqb k 22) (bit_z (divides a (word xs (number b))))
    (cond (eqb k 23 || eqb k 24) (bit_z (eqb p 0))
    (cond (eqb k 25) (bit_z (says xs (number a) && says xs (number b)))
    (cond (eqb k 26) (bit_z (says xs (number a) || says xs (number b))) (cond (eqb k 27) (bit_z (not (says xs (number a)))) (pos 0)))))))))))))

pub work_in : (N p : ℕ) (xs : List ℤ) (z a b : ℤ) → work N p xs (node_of z a b) ≡ work_by N p xs (number z) a b
unfolding work
work_in N p xs z a b = in_table (λ k n. work N p xs n ≡ work_by N p xs k a b) z a b (search rules) (λ n. grind (arith, nat_tests))
