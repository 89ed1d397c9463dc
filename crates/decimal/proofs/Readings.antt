-- A text read piece by piece into a list: the words so far stand at its front, and the pieces that are left decide about the rest.
-- Assumes nothing.
use Rattle.std.proofs.Common.{◌≡◌, ◌≢◌, ℕ, zero, suc, ◌+◌, ◌-◌, ◌<◌, ◌≤◌, Bool, true, false, not, cond, eqb, List, [], ◌∷◌, ◌++◌, ℤ, length, get_or, take, drop, set, Option, Some, None, refl, sym, ap, ◌∙◌, arith, add-one, one-add, ne_eqb, append-nil, length-set, take-append-drop, length-take-le, drop-drop}
use Rattle.std.specs.List.{slice_split, onto_first, filter, position_or_len}
use Rattle.std.proofs.Math.Seq.{take-suc-set, drop-set-lt, append_snoc}
use native.Mathlib.Nat.{sub-zero}
use Rattle.decimal.specs.Reading.{blank, is_word, on_first, pieces, word_in, Reading, stopped, after, read_pieces, read_text, scanned_of, onto}

-- ---- the pieces that are not empty

abbrev pub has_bytes : List ℕ → Bool
has_bytes p = not (eqb (length p) 0)

abbrev pub filled_pieces : List ℕ → List (List ℕ)
filled_pieces text = filter has_bytes (slice_split blank text)

-- The part in front ends before the first blank. The pieces of what is left are the parts behind it that are not empty.
abbrev Cut : List ℕ → Type 0
Cut text =
    let n = position_or_len blank text in
    (behind : List (List ℕ)) × (slice_split blank text ≡ take n text ∷ behind) × (filter has_bytes behind ≡ filled_pieces (drop n text))

cut : (text : List ℕ) → Cut text
cut [] = ([], refl, refl)
cut (b ∷ bs) = go (blank b) refl (cut bs)
  where
    go : (t : Bool) → blank b ≡ t → Cut bs → Cut (b ∷ bs)
    go true e c = (slice_split blank bs, rw e, rw (e, e))
    go false e c = (c.0, rw (e, c.1, one-add), rw (e, one-add) c.2)

pub none_filled : (text : List ℕ) → length text < 1 → filled_pieces text ≡ []
none_filled [] h = refl
none_filled (b ∷ bs) h = absurd (omega arith)

pub first_filled : (text : List ℕ) → 1 ≤ length text → blank (get_or text 0 0) ≡ false
    → filled_pieces text ≡ take (position_or_len blank text) text ∷ filled_pieces (drop (position_or_len blank text) text)
first_filled [] h e = absurd (omega arith)
first_filled (b ∷ bs) h e =
    let c = cut bs in
    let some = ne_eqb (suc (length (take (position_or_len blank bs) bs))) 0 (omega arith) in
    rw (e, one-add, c.1, some, c.2)

on_first_lem : (b : ℕ) (ps : List (List ℕ)) → on_first b ps ≡ onto_first b ps
on_first_lem b [] = refl
on_first_lem b (p ∷ ps) = refl

pieces_split : (text : List ℕ) → pieces text ≡ slice_split blank text
unfolding pieces
pieces_split [] = refl
pieces_split (b ∷ bs) = rw (pieces_split bs, on_first_lem)

-- what a word makes of the reading of the pieces after it, and so does a piece that is no word
abbrev taking : Option ℤ → Reading → Reading
taking None r = stopped
taking (Some w) r = after w r

taking_lem : (t : Bool) (w : ℤ) (r : Reading) → cond t (after w r) stopped ≡ taking (cond t (Some w) None) r
taking_lem true w r = refl
taking_lem false w r = refl

abbrev pub read_filled : ℕ → List (List ℕ) → Reading
read_filled room [] = record { words = []; all = true }
read_filled zero (p ∷ ps) = stopped
read_filled (suc room) (p ∷ ps) = taking (word_in p) (read_filled room ps)

read_pieces_lem : (room : ℕ) (ps : List (List ℕ)) → read_pieces room ps ≡ read_filled room (filter has_bytes ps)
unfolding read_pieces word_in
read_pieces_lem room [] = refl
read_pieces_lem room ([] ∷ ps) = read_pieces_lem room ps
read_pieces_lem zero ((b ∷ bs) ∷ ps) = rw (ne_eqb (suc (length bs)) 0 (omega arith))
read_pieces_lem (suc room) ((b ∷ bs) ∷ ps) = rw (ne_eqb (suc (length bs)) 0 (omega arith), read_pieces_lem room ps) (taking_lem (is_word (b ∷ bs)) _ _)

read_text_lem : (room : ℕ) (text : List ℕ) → read_text room text ≡ read_filled room (filled_pieces text)
unfolding read_text
read_text_lem room text = rw (read_pieces_lem, pieces_split)

-- ---- what is left

-- words, and then those of a reading
abbrev ahead : List ℤ → Reading → Reading
ahead ws r = record { words = ws ++ r.words; all = r.all }

pub record Left (text : List ℕ) (out₀ out : List ℤ) (count : ℕ) (ps : List (List ℕ)) : Type 0 where
  pub few : count ≤ length out₀
  pub long : length out ≡ length out₀
  pub kept : drop count out ≡ drop count out₀
  pub reads : read_text (length out₀) text ≡ ahead (take count out) (read_filled (length out₀ - count) ps)

-- what the reading comes to: the answer, and the words
pub record Read (text : List ℕ) (out₀ out : List ℤ) (answer : Option ℕ) : Type 0 where
  pub says : answer ≡ scanned_of (read_text (length out₀) text)
  pub holds : out ≡ onto out₀ (read_text (length out₀) text)

pub left_start : (text : List ℕ) (out : List ℤ) → Left text out out 0 (filled_pieces text)
left_start text out = record { few = omega arith; long = refl; kept = refl; reads = rw sub-zero (read_text_lem (length out) text) }

module _ {text : List ℕ} {out₀ out : List ℤ} {count : ℕ} where
  -- nothing more is read
  read_off : {ps : List (List ℕ)} (t : Bool) → Left text out₀ out count ps → read_filled (length out₀ - count) ps ≡ record { words = []; all = t }
      → Read text out₀ out (cond t (Some count) None)
  unfolding scanned_of onto
  read_off t l e =
      let n : length (take count out) ≡ count = length-take-le count out (omega (arith, l.few, l.long)) in
      let whole : read_text (length out₀) text ≡ record { words = take count out; all = t } = rw (l.reads, e, append-nil (take count out)) in
      record { says = rw (whole, n); holds = rw (whole, n, ← l.kept) (sym (take-append-drop count out)) }

  pub left_end : Left text out₀ out count [] → Read text out₀ out (Some count)
  left_end l = read_off true l refl

  module _ {p : List ℕ} {ps : List (List ℕ)} (l : Left text out₀ out count (p ∷ ps)) where
    pub left_full : count ≡ length out → Read text out₀ out None
    left_full e =
        let z : length out₀ - count ≡ 0 = omega (arith, l.long) in
        read_off false l (rw z)

    module _ (room : count ≢ length out) where
      one_more : length out₀ - count ≡ suc (length out₀ - (count + 1))
      one_more = omega (arith, l.few, l.long)

      pub left_other : word_in p ≡ None → Read text out₀ out None
      left_other e = read_off false l (rw (one_more, e))

      pub left_word : (w : ℤ) → word_in p ≡ Some w → Left text out₀ (set out count w) (count + 1) ps
      left_word w e =
          let front : take (count + 1) (set out count w) ≡ take count out ++ (w ∷ []) =
          rw (add-one count) (take-suc-set out count w (omega (arith, l.few, l.long))) in
          record {
            few = omega (arith, l.few, l.long);
            long = length-set out count w ∙ l.long;
            kept = drop-set-lt (count + 1) out count w (omega arith) ∙ sym (drop-drop 1 count out) ∙ ap (drop 1) l.kept ∙ drop-drop 1 count out₀;
            reads = l.reads ∙ rw (one_more, e, front, append_snoc (take count out) w _);
          }
