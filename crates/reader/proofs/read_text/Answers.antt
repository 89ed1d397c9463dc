-- `reader::read_text` meets its contract. The array's length is taken from a law: a list of so many words is not to be computed.
use mathlib.Core.Path.{sym, subst}
use Prim.Native.Nat.{◌≤◌}
use native.Mathlib.Nat.{le_refl}
use lib.IntN.{pos}
use lib.ListN.{length-replicate}
use Rattle.reader.specs.Runs.{most_words}
use Rattle.reader.proofs.read_text.Goals as goal

pub slice_bounds-read_by-end : goal.slice_bounds-read_by-end
slice_bounds-read_by-end c =
    sym (length-replicate most_words (pos 0))

pub read_by-requires : goal.read_by-requires
read_by-requires c =
    subst (λ n. most_words ≤ n) (sym (length-replicate most_words (pos 0))) (le_refl most_words)
