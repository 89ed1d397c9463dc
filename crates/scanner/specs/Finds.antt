-- What was found at the front of a text, beside what `Scan` of crate `sentence` finds there. Assumes nothing.
use Rattle.std.specs.Prelude.{◌≡◌, List, ℕ, ℤ, pos, drop}
use Rattle.checker.specs.Claim.{Node}
use Rattle.checker.specs.Words.{fields_of}
use Rattle.decimal.specs.Reading.{most_negative}
use Rattle.sentence.specs.Scan as scan
use Rattle.sentence.specs.Scan.{found, number_from}
use Rattle.scanner.specs.declared.Found.{Found}
use Rattle.scanner.specs.declared.Fields.{Fields}

-- Numbers over this, the largest that a word's digits say, are not told apart.
abbrev pub most : ℕ
most = most_negative

-- The same was found, as `view` shows it, and the same bytes follow.
pub record Finds {A B : Type 0} (view : A → B) (f : scan.Found A) (r : Found B) : Type 0 where
  pub value : r.value ≡ view f.value
  pub rest : r.rest.now ≡ f.rest

-- two numbers, with so many bytes between and after them
abbrev pub pair_from : ℕ → ℕ → List ℕ → scan.Found (ℕ × ℕ)
pair_from between after bs =
    let x = number_from most 0 bs in
    let y = number_from most 0 (drop between x.rest) in
    found (x.value, y.value) (drop after y.rest)

abbrev pub two_numbers : ℕ × ℕ → ℤ × ℤ
two_numbers p = (pos p.0, pos p.1)

-- the words of a node
abbrev pub fields_in : Node → Fields
fields_in n = record { kind = pos (fields_of n).kind; a = (fields_of n).a; b = (fields_of n).b }

-- the words of a node of this kind that has two children
abbrev pub nodes_fields : ℤ → ℕ × ℕ → Fields
nodes_fields k p = record { kind = k; a = pos p.0; b = pos p.1 }
