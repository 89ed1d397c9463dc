-- `region::size` meets its contract: as many regions as bits are set, word by word. Assumes nothing.
use mathlib.Core.Path.{◌≡◌, sym, ◌∙◌, ap}
use mathlib.Core.List.{map}
use Prim.Native.Nat.{ℕ, ◌+◌, ◌*◌}
use native.Mathlib.Nat.{sub-zero}
use native.Mathlib.Omega.{arith}
use borrow.Author.Rules.{rules}
use borrow.Author.Tests.{tests}
use lib.Count.{ones}
use lib.ListN.{length}
use Rattle.std.proofs.lemmas.Iterator.{YieldsList-from_range, YieldsList-from_map}
use Rattle.std.proofs.lemmas.Iterator.Adapters.{fits_from_length, at_most_from_yields_List, total_from_yields_List}
use Rattle.std.proofs.lemmas.List.FromFn.{length-range_with_len}
use Rattle.std.specs.List.{sum, range_with_len}
use Rattle.region.specs.Pattern.{covers_words, stride, words_in, word_in, room_in, regions_from}
use Rattle.region.proofs.Pattern.{words_few, regions_words}
use Rattle.region.proofs.Covered.{covered_le}
use Rattle.region.proofs.Words.{covered_words}
use Rattle.region.proofs.read.size.Goals as goal

pub sum-requires-clause-fits : goal.sum-requires-clause-fits
sum-requires-clause-fits c =
    let n = c.words_in.result in
    let words = YieldsList-from_range 0 n n c.map.ensures.source (sub-zero n) in
    fits_from_length _ _ 4 _ (at_most_from_yields_List words (omega (arith, length-range_with_len 0 n, words_few c.args.patterns.now))) c.map.ensures.closure
    (omega arith) (λ x r q k. search (rules, tests))

pub returns : goal.returns
returns c =
    let t = c.args.patterns.now in
    let n = c.words_in.result in
    let f = word_in t c.args.i in
    let words = YieldsList-from_range 0 n n c.map.ensures.source (sub-zero n) in
    let total = total_from_yields_List _ 0 _ c.sum.ensures.ran (YieldsList-from_map _ (λ j. ones (f j)) words c.map.ensures.closure (λ x r q k. search rules)) in
    let regions = rw sub-zero at (regions_words t c.args.i 0 c.requires) in
    let value : c.sum.result ≡ length (regions_from t c.args.i 0) =
    total ∙ ap (λ (w : ℕ). sum (map (λ j. ones (f j)) (range_with_len 0 w))) c.words_in.ensures
    ∙ sym (covered_words (words_in t) f (λ m _. (c.type_inv.patterns (stride * m + c.args.i)).fits)) ∙ sym (ap length regions) in
    (value, omega (arith, value, ap length regions, covered_le (room_in t) 0 (covers_words (words_in t) f), words_few t))
