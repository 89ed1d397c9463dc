-- The numbers in a frame are numbers of emitted quantifiers.
-- Assumes nothing.
use mathlib.Core.Path.{◌≡◌, refl}
use mathlib.Core.List.{List, [], ◌∷◌, ◌++◌, append_assoc, append-nil}
use Prim.Native.Nat.{ℕ, ◌+◌, ◌<◌, ◌≤◌}
use native.Mathlib.Omega.{arith}
use lib.ListN.{length, get_or, length-append}
use Rattle.checker.specs.Claim.{Quantifier, int_q, set_q, count_q}
use Rattle.region.specs.Regions.{dbl}
use Rattle.emission.specs.Emission.{Place, Frame, start, with_number, with_set, inside, inside_all, size, counts}
use Rattle.emission.proofs.Lengths.{dbl_some}
use Rattle.reducer.proofs.Lists.{at_each}

-- the regions' quantifiers are among the first m
abbrev pub Placed : Place → ℕ → ℕ → Type 0
Placed size n m = Unit {0}
Placed (counts first) n m = first + n ≤ m

pub record Framed (done : List Quantifier) (f : Frame) : Type 0 where
  pub some : 0 < f.regions
  pub placed : Placed f.place f.regions f.next
  pub numbers_long : length f.numbers ≡ length done
  pub numbers : (q : ℕ) → q < length f.numbers → get_or f.numbers q 0 < f.next

placed_more : (p : Place) (n m k : ℕ) → m ≤ k → Placed p n m → Placed p n k
placed_more size n m k l h = tt
placed_more (counts first) n m k l h = omega arith

pub framed_start : Framed [] start
unfolding start
framed_start = record { some = omega arith; placed = tt; numbers_long = refl; numbers = λ q h. absurd (omega arith) }

module _ (done : List Quantifier) (f : Frame) (h : Framed done f) (q : Quantifier) where
  number_below : (m : ℕ) → f.next < m → (i : ℕ) → i < length (f.numbers ++ f.next ∷ []) → get_or (f.numbers ++ f.next ∷ []) i 0 < m
  number_below m l = at_each (λ i y. y < m) f.numbers f.next 0 (λ i k. omega (arith, h.numbers i k)) l

  framed_number : Framed (done ++ q ∷ []) (with_number f)
  unfolding with_number
  framed_number =
      record {
        some = h.some;
        placed = placed_more f.place f.regions f.next (f.next + 1) (omega arith) h.placed;
        numbers_long = simp length-append (omega (arith, h.numbers_long));
        numbers = number_below (f.next + 1) (omega arith);
      }

  framed_set : Framed (done ++ q ∷ []) (with_set f)
  unfolding with_set
  framed_set =
      record {
        some = dbl_some f.regions h.some;
        placed = omega arith;
        numbers_long = simp length-append (omega (arith, h.numbers_long));
        numbers = number_below (f.next + dbl f.regions) (omega (arith, dbl_some f.regions h.some));
      }

pub framed_inside : (done : List Quantifier) (f : Frame) → Framed done f → (q : Quantifier) → Framed (done ++ q ∷ []) (inside f q)
framed_inside done f h (int_q some) = framed_number done f h (int_q some)
framed_inside done f h (set_q some) = framed_set done f h (set_q some)
framed_inside done f h (count_q some) = framed_number done f h (count_q some)

pub framed_all : (qs done : List Quantifier) (f : Frame) → Framed done f → Framed (done ++ qs) (inside_all f qs)
unfolding inside_all
framed_all [] done f h = rw append-nil h
framed_all (q ∷ qs) done f h = rw append_assoc at (framed_all qs (done ++ q ∷ []) (inside f q) (framed_inside done f h q))
