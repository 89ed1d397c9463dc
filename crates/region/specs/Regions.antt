-- The regions that sets cut the ports into (003, section 4; 01, "Regions"), and how many ports each has. For every number of sets.
-- Assumes nothing.
use Rattle.std.specs.Prelude.{◌≡◌, Bool, true, false, not, cond, ◌&&◌, List, [], ◌∷◌, ℕ, zero, suc, ◌+◌, ◌*◌, ◌/◌, ◌%◌, eqb}
use Rattle.checker.specs.Words.{tab}
use Rattle.checker.specs.Meaning.{Set, World, bit, count}

-- ---- region numbers

-- After one more set, the inner one, the ports of region i are in region 2 i (outside it) or 2 i + 1 (inside it).
unfoldable pub deeper : (ℕ → ℕ) → Set → ℕ → ℕ
deeper r y p = 2 * r p + bit (y p)

-- The region of a port among sets, the innermost first: the outermost set is the highest bit.
unfoldable pub region : List Set → ℕ → ℕ
region [] p = 0
region (y ∷ ys) p = deeper (region ys) y p

-- So of regions i after one more set: half i is the region that was split, and the new set covers the odd ones.
abbrev pub half : ℕ → ℕ
half i = i / 2

abbrev pub odd : Set
odd i = eqb (i % 2) 1

-- twice a number, by its clauses: the number of regions after one more set
abbrev pub dbl : ℕ → ℕ
dbl zero = zero
dbl (suc n) = suc (suc (dbl n))

-- ---- counts

-- Where r gives each port's region: how many of N ports are in region i, and that for the regions below n.
unfoldable pub tally : ℕ → (ℕ → ℕ) → ℕ → ℕ
tally N r i = count N (λ p. eqb (r p) i)

unfoldable pub tallies : ℕ → ℕ → (ℕ → ℕ) → List ℕ
tallies n N r = tab n (tally N r)

-- Each region of `c` ports becomes one of `a` outside the new set and one of `b` inside it.
abbrev pub Split : List ℕ → List ℕ → Type 0
Split [] [] = Unit {0}
Split [] (l ∷ ls) = ⊥
Split (c ∷ cs) [] = ⊥
Split (c ∷ cs) (a ∷ []) = ⊥
Split (c ∷ cs) (a ∷ b ∷ ls) = (c ≡ a + b) × Split cs ls

-- ---- sets as the regions that they cover

-- in a and not in b
abbrev pub minus : Set → Set → Set
minus a b p = a p && not (b p)

abbrev pub part : Bool → ℕ → ℕ
part true c = c
part false c = 0

-- How many ports are in the regions that w covers.
unfoldable pub over : Set → List ℕ → ℕ
over w [] = 0
over w (c ∷ cs) = part (w zero) c + over (λ r. w (suc r)) cs

-- Those of the n regions from i on that w covers, rising.
unfoldable pub covered : ℕ → ℕ → Set → List ℕ
covered i zero w = []
covered i (suc n) w = cond (w i) (i ∷ covered (suc i) n w) (covered (suc i) n w)

-- The world of regions, of which region i has the i-th count of cs.
abbrev pub regions : List ℕ → World
regions cs =
    record {
      size = over (λ i. true) cs;
      count = λ a. over a cs;
      same = λ a b. eqb (over (minus a b) cs) 0 && eqb (over (minus b a) cs) 0;
      within = λ a b. eqb (over (minus a b) cs) 0;
    }
