-- The answer to a reading, as the function that read says it. Assumes nothing.
use Rattle.std.proofs.Common.{◌≡◌, ℕ, ◌≤◌, true, List, ℤ, Some, None, length, take, drop, arith, length-append, length-take-le}
use Rattle.std.proofs.lemmas.List.{take_at}
use Rattle.std.proofs.lemmas.Bool.Decides.{nat_tests}
use Rattle.std.proofs.lemmas.Option.{cond_some}
use Rattle.decimal.specs.Reading.{Reading, scanned_of, onto}
use Rattle.text.specs.Answer.{unread, answered}

pub answered_none : (f : List ℤ → List ℕ) (r : Reading) → scanned_of r ≡ None → answered f r ≡ unread
unfolding answered scanned_of
answered_none f r e = grind (arith, nat_tests)

-- n words were read onto l
module _ (l : List ℤ) (r : Reading) (n : ℕ) (e : scanned_of r ≡ Some n) where
  read_all : (r.all ≡ true) × (length r.words ≡ n)
  unfolding scanned_of
  read_all = cond_some r.all (length r.words) n e

  pub read_within : n ≤ length (onto l r)
  unfolding onto
  read_within = omega (arith, read_all.1, length-append r.words (drop (length r.words) l))

  read_words : take n (onto l r) ≡ r.words
  unfolding onto
  read_words = take_at r.words (drop (length r.words) l) n read_all.1

  pub read_taken : length (take n (onto l r)) ≡ n
  read_taken = length-take-le n (onto l r) read_within

  pub answered_some : (f : List ℤ → List ℕ) → answered f r ≡ f (take n (onto l r))
  unfolding answered
  answered_some f = rw (read_words, read_all.0)

pub ruleset readings = (answered_none, answered_some, read_within, read_taken)
