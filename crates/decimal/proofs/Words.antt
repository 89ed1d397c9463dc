-- A word read as a number behind its sign.
-- Assumes nothing.
use Rattle.std.proofs.Common.{◌≡◌, ◌≢◌, ℕ, Bool, true, false, cond, List, [], ◌∷◌, length, get_or, drop, pos, neg_ℤ, Some, None, refl}
use Rattle.std.specs.Option.{option_map}
use Rattle.std.proofs.lemmas.Bool.{eq-eqb, ne_eqb}
use Rattle.decimal.specs.Reading.{minus, most_negative, most_positive, is_word, word_of, number_in, word_in}
use Rattle.decimal.proofs.Numbers.{number_within}

option_map-cond : {A B : Type 0} (f : A → B) (t : Bool) (x : A) → cond t (Some (f x)) None ≡ option_map f (cond t (Some x) None)
option_map-cond f true x = refl
option_map-cond f false x = refl

pub word-minus : (t : List ℕ) → length t ≢ 0 → get_or t 0 0 ≡ minus → word_in t ≡ option_map (λ n. neg_ℤ (pos n)) (number_in most_negative (drop 1 t))
unfolding word_in is_word word_of number_in
word-minus [] some e = absurd (some refl)
word-minus (b ∷ bs) some e = rw (eq-eqb b minus e) (option_map-cond _ _ _)

pub word_plain : (t : List ℕ) → get_or t 0 0 ≢ minus → word_in t ≡ option_map pos (number_in most_positive t)
unfolding word_in is_word word_of number_in
word_plain [] other = refl
word_plain (b ∷ bs) other = rw (ne_eqb b minus other) (option_map-cond _ _ _)

pub ruleset words = (word-minus, word_plain, number_within)
