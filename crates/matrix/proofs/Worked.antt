-- What the code may rely on where it works out a node's number, by the number of its kind. Assumes nothing.
use Rattle.std.proofs.Common.{◌≡◌, true, Bool, ◌||◌, List, length, ℕ, ◌+◌, ◌*◌, ◌≤◌, ◌<◌, eqb, ℤ, arith, rules}
use Rattle.std.proofs.Math.IntN.{nat_abs}
use Rattle.std.proofs.lemmas.Bool.Decides.{nat_tests}
use Rattle.checker.specs.Kinds.{no_number, number, node_of}
use Rattle.checker.specs.Words.{word, node_at}
use Rattle.matrix.specs.Bound.{max_bound}
use Rattle.matrix.specs.Work.{children, Every, work}
use Rattle.matrix.specs.Known.{Workable}
use Rattle.matrix.proofs.Kindwise.{in_table, work_by, work_in}

-- ---- operands that have numbers

abbrev pub two_numbers : ℕ → Bool
two_numbers k = eqb k 13 || (eqb k 14 || (eqb k 20 || (eqb k 21 || (eqb k 25 || eqb k 26))))

abbrev pub second_number : ℕ → Bool
second_number k = eqb k 15 || eqb k 22

module _ (P : ℕ → Type 0) (z a b : ℤ) where
  two_in : Every P (children (node_of z a b)) → two_numbers (number z) ≡ true → P (number a) × P (number b)
  unfolding children
  two_in =
      in_table (λ k n. Every P (children n) → two_numbers k ≡ true → P (number a) × P (number b)) z a b (search rules) (λ n e t. absurd (grind (arith, nat_tests)))

  second_in : Every P (children (node_of z a b)) → second_number (number z) ≡ true → P (number b)
  unfolding children
  second_in =
      in_table (λ k n. Every P (children n) → second_number k ≡ true → P (number b)) z a b (search rules) (λ n e t. absurd (grind (arith, nat_tests)))

  first_in : Every P (children (node_of z a b)) → number z ≡ 27 → P (number a)
  unfolding children
  first_in =
      in_table (λ k n. Every P (children n) → k ≡ 27 → P (number a)) z a b (search rules) (λ n e t. absurd (omega arith))

-- a node's number can be read by its word, and is small
pub record Readable (xs : List ℤ) (z : ℤ) : Type 0 where
  pub inside : number z < length xs
  pub natural : number z < no_number
  pub small : nat_abs (word xs (number z)) ≤ max_bound

module _ {ws : List ℤ} {N p : ℕ} {xs : List ℤ} {i : ℕ} (ok : Workable ws N p xs i) where
  abbrev kind : ℕ
  kind = number (word ws (3 * i))

  abbrev a : ℤ
  a = word ws (3 * i + 1)

  abbrev b : ℤ
  b = word ws (3 * i + 2)

  abbrev Earlier : ℕ → Type 0
  Earlier x = (x < i) × (nat_abs (word xs x) ≤ max_bound)

  readable : (z : ℤ) → Earlier (number z) → Readable xs z
  readable z (l, s) = record { inside = omega (arith, ok.inside); natural = omega (arith, ok.few); small = s }

  pub two_readable : two_numbers kind ≡ true → Readable xs a × Readable xs b
  two_readable t = let r = two_in Earlier _ a b ok.earlier t in (readable a r.0, readable b r.1)

  pub second_readable : second_number kind ≡ true → Readable xs b
  second_readable t = readable b (second_in Earlier _ a b ok.earlier t)

  pub first_readable : kind ≡ 27 → Readable xs a
  first_readable t = readable a (first_in Earlier _ a b ok.earlier t)

  pub worked : work N p xs (node_at ws i) ≡ work_by N p xs kind a b
  worked = work_in N p xs _ a b

  pub work_small : nat_abs (work_by N p xs kind a b) ≤ max_bound
  work_small = rw (← worked) ok.small
