-- What is put into words while a text is scanned: a run of nodes or of quantifiers, how many they are, and how the text goes on.
-- Assumes nothing.
use Rattle.std.specs.Prelude.{List, map, ℕ, ◌+◌, ◌*◌, ℤ, length}
use Rattle.checker.specs.declared.Dialect.TheVariants.{Emitted}
use Rattle.checker.specs.Dialect.{most_nodes, most_quantifiers}
use Rattle.lent.specs.Write.{Wrote}
use Rattle.sentence.specs.Scan.{Limits}
use Rattle.sentence.specs.Scan as scan
use Rattle.scanner.specs.declared.Found.{Found}
use Rattle.scanner.specs.Finds.{most, Finds}
use Rattle.reader.specs.Held.{held}

-- The nodes and quantifiers of the largest claim that the writer takes.
abbrev pub limits : Limits
limits = record { nodes = most_nodes Emitted; quantifiers = most_quantifiers Emitted; number = most }

-- the words of such a claim
abbrev pub most_words : ℕ
most_words = 3 * most_nodes Emitted + most_quantifiers Emitted + 4

-- So many things were found, and from the list l to l' their words are put, `width` for each, from a place on.
pub record RunPut {A : Type 0} (words_of : List A → List ℤ) (width : ℕ) (f : scan.Found (List A))
    (l : List ℤ) (from : ℕ) (l' : List ℤ) (r : Found ℕ) : Type 0
  where
    pub found : Finds length f r
    pub words : Wrote l from (map held (words_of f.value)) l' (from + width * r.value)
