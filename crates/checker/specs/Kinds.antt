-- The sort table (01, "The claim table"): what each kind of node requires in a and b, and the node that it stands for.
-- Assumes nothing.
use Rattle.std.specs.Prelude.{Bool, true, false, cond, ◌&&◌, List, [], ◌∷◌, ℕ, leb, eqb, ℤ, pos, negsuc, get_or, Option, Some, None}
use Rattle.checker.specs.declared.Row.{Row}
use Rattle.checker.specs.declared.Sort.{Sort}
use Rattle.checker.specs.declared.Sort.TheVariants.{ASet, ATerm, AFormula}
use Rattle.checker.specs.declared.Range.{Range}
use Rattle.checker.specs.declared.Range.TheVariants.{Sets, Numbers}
use Rattle.checker.specs.declared.Need.{Need}
use Rattle.checker.specs.declared.Need.TheVariants.{Unused, Word, Child, Name}
use Rattle.checker.specs.Claim.{Node, set_var, empty, whole, union, inter, compl, num_var, const, maxc, sum, diff, multiple, card, equal, less, divided, set_equal, subset, conj, disj, neg, unknown, Quantifier, int_q, set_q, count_q}

-- ---- words as numbers

-- A negative word is no number: where the table asks for one it reads as a number over every limit.
abbrev pub no_number : ℕ
no_number = 4294967295

unfoldable pub number : ℤ → ℕ
number (pos n) = n
number (negsuc n) = no_number

-- ---- the table, one row per kind

-- A kind, what it requires in a and in b if it is in the table, and the node that it makes of the words there.
pub record Entry : Type 0 where
  pub kind : ℕ
  pub needs : Option Row
  pub node : ℤ → ℤ → Node

abbrev pub row : ℕ → Need → Need → (ℤ → ℤ → Node) → Entry
row k x y f = record { kind = k; needs = Some (record { a = x; b = y }); node = f }

abbrev pub sort_table : List Entry
sort_table =
    row 1 (Name Sets) Unused (λ a b. set_var (number a))
    ∷ row 2 Unused Unused (λ a b. empty)
    ∷ row 3 Unused Unused (λ a b. whole)
    ∷ row 4 (Child ASet) (Child ASet) (λ a b. union (number a) (number b))
    ∷ row 5 (Child ASet) (Child ASet) (λ a b. inter (number a) (number b))
    ∷ row 6 (Child ASet) Unused (λ a b. compl (number a))
    ∷ row 10 (Name Numbers) Unused (λ a b. num_var (number a))
    ∷ row 11 Word Unused (λ a b. const a)
    ∷ row 12 Unused Unused (λ a b. maxc)
    ∷ row 13 (Child ATerm) (Child ATerm) (λ a b. sum (number a) (number b))
    ∷ row 14 (Child ATerm) (Child ATerm) (λ a b. diff (number a) (number b))
    ∷ row 15 Word (Child ATerm) (λ a b. multiple a (number b))
    ∷ row 16 (Child ASet) Unused (λ a b. card (number a))
    ∷ row 20 (Child ATerm) (Child ATerm) (λ a b. equal (number a) (number b))
    ∷ row 21 (Child ATerm) (Child ATerm) (λ a b. less (number a) (number b))
    ∷ row 22 Word (Child ATerm) (λ a b. divided a (number b))
    ∷ row 23 (Child ASet) (Child ASet) (λ a b. set_equal (number a) (number b))
    ∷ row 24 (Child ASet) (Child ASet) (λ a b. subset (number a) (number b))
    ∷ row 25 (Child AFormula) (Child AFormula) (λ a b. conj (number a) (number b))
    ∷ row 26 (Child AFormula) (Child AFormula) (λ a b. disj (number a) (number b))
    ∷ row 27 (Child AFormula) Unused (λ a b. neg (number a))
    ∷ []

abbrev pub no_entry : ℕ → Entry
no_entry k = record { kind = k; needs = None; node = λ a b. unknown }

abbrev pub entry_in : List Entry → ℕ → Entry
entry_in [] k = no_entry k
entry_in (e ∷ es) k = cond (eqb e.kind k) e (entry_in es k)

unfoldable pub row_of : ℕ → Option Row
row_of k = (entry_in sort_table k).needs

unfoldable pub node_of : ℤ → ℤ → ℤ → Node
node_of kind a b = (entry_in sort_table (number kind)).node a b

-- ---- sorts

abbrev pub within : ℕ → ℕ → ℕ → Bool
within lo hi k = leb lo k && leb k hi

-- Kinds 1 to 6 are sets, 10 to 16 terms, 20 to 27 formulas.
unfoldable pub sort_of : ℕ → Option Sort
sort_of k = cond (within 1 6 k) (Some ASet) (cond (within 10 16 k) (Some ATerm) (cond (within 20 27 k) (Some AFormula) None))

-- s is the sort k
abbrev pub is_sort : Sort → Option Sort → Bool
is_sort ASet (Some ASet) = true
is_sort ATerm (Some ATerm) = true
is_sort AFormula (Some AFormula) = true
is_sort k s = false

abbrev pub is_set : Option Sort → Bool
is_set s = is_sort ASet s

-- ---- quantifiers

-- Kinds 1, 2, 5 and 6 range over numbers, 3 and 4 over sets; there is no kind 0.
abbrev pub ranges : List (Option Range)
ranges = None ∷ Some Numbers ∷ Some Numbers ∷ Some Sets ∷ Some Sets ∷ Some Numbers ∷ Some Numbers ∷ []

unfoldable pub range_of : ℕ → Option Range
range_of k = get_or ranges k None

-- The quantifier that a word stands for; what is no kind reads as an exists over integers.
unfoldable pub quantifier_of : ℤ → Quantifier
quantifier_of word =
    get_or (int_q true ∷ int_q true ∷ int_q false ∷ set_q true ∷ set_q false ∷ count_q true ∷ count_q false ∷ []) (number word) (int_q true)

-- r is the range k
abbrev pub is_range : Range → Option Range → Bool
is_range Sets (Some Sets) = true
is_range Numbers (Some Numbers) = true
is_range k r = false
