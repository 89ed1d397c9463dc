-- Laws of writing: two writes one after the other are one of both, and what a loop that writes has still to write.
-- Assumes nothing.
use mathlib.Core.Path.{◌≡◌, refl, sym, ap, ◌∙◌}
use mathlib.Core.List.{List, [], ◌∷◌, ◌++◌}
use Prim.Native.Nat.{ℕ, suc, ◌+◌, ◌-◌, ◌≤◌}
use native.Mathlib.Nat.{add-zero, zero-add, add-suc, suc-add}
use native.Mathlib.Omega.{arith}
use lib.ListN.{length, drop, set, length-append}
use lib.Seq.{sets, sets-eq, length-sets, drop-drop}
use Rattle.std.proofs.Common.{append_assoc}
use borrow.Rule.Slice.PartMut.{put_mid}
use Rattle.lent.specs.Write.{Room, Wrote}

sets-append : {A : Type 0} (l : List A) (i : ℕ) (us vs : List A) → sets l i (us ++ vs) ≡ sets (sets l i us) (i + length us) vs
sets-append l i [] vs = rw add-zero
sets-append l i (u ∷ us) vs = sets-append (set l i u) (suc i) us vs ∙ rw (suc-add i (length us), ← add-suc i (length us))

-- The elements ws are still to be written to l from place i on, and with them the whole, ws₀ to l₀ from i₀ on, is done.
pub record Rest {A : Type 0} (l : List A) (i : ℕ) (ws l₀ : List A) (i₀ : ℕ) (ws₀ : List A) : Type 0 where
  pub long : length l ≡ length l₀
  pub whole : (l' : List A) (n : ℕ) → Wrote l i ws l' n → Wrote l₀ i₀ ws₀ l' n

module _ {A : Type 0} where
  pub wrote_long : {l l' ws : List A} {i n : ℕ} → Wrote l i ws l' n → length l' ≡ length l
  wrote_long {l} {l'} {ws} {i} w = ap length w.words ∙ length-sets l i ws

  pub wrote_none : (l : List A) (i : ℕ) → Wrote l i [] l i
  wrote_none l i = record { words = refl; after = sym (add-zero i) }

  pub wrote_then : {l l' l'' us vs : List A} {i m n : ℕ} → Wrote l i us l' m → Wrote l' m vs l'' n → Wrote l i (us ++ vs) l'' n
  wrote_then {l} {l'} {l''} {us} {vs} {i} v w =
      record {
        words = w.words ∙ rw (v.words, v.after) (sym (sets-append l i us vs));
        after = rw length-append (omega (arith, v.after, w.after));
      }

  -- what is written from the start on is the front of the list, and the rest is as it was
  pub wrote_front : {l l' ws : List A} {n : ℕ} → Wrote l 0 ws l' n → length ws ≤ length l → l' ≡ ws ++ drop (length ws) l
  wrote_front {l} {l'} {ws} w h = w.words ∙ sets-eq ws l 0 (rw zero-add h) ∙ rw zero-add

  pub room_left : {l us : List A} {i : ℕ} (vs : List A) → Room l i (us ++ vs) → Room l i us
  room_left {us = us} vs r = record { fits = omega (arith, r.fits, length-append us vs) }

  pub room_right : {l l' us vs : List A} {i m : ℕ} → Room l i (us ++ vs) → Wrote l i us l' m → Room l' m vs
  room_right {us = us} {vs = vs} r w = record { fits = omega (arith, r.fits, length-append us vs, w.after, wrote_long w) }

  pub rest_start : {l ws : List A} {i : ℕ} → Rest l i ws l i ws
  rest_start = record { long = refl; whole = λ l' n w. w }

  pub rest_step : {l l' l₀ us vs ws ws₀ : List A} {i m i₀ : ℕ} → ws ≡ us ++ vs → Rest l i ws l₀ i₀ ws₀ → Wrote l i us l' m → Rest l' m vs l₀ i₀ ws₀
  rest_step {l} {l'} {l₀} {us} {vs} {ws} {ws₀} {i} {m} {i₀} e r w =
      record { long = wrote_long w ∙ r.long; whole = λ l'' n v. r.whole l'' n (rw e (wrote_then w v)) }

  pub rest_end : {l l₀ ws ws₀ : List A} {i i₀ : ℕ} → ws ≡ [] → Rest l i ws l₀ i₀ ws₀ → Wrote l₀ i₀ ws₀ l i
  rest_end {l} {l₀} {ws} {ws₀} {i} e r = r.whole l i (rw e (wrote_none l i))

  -- the part from place i up to n was written whole
  pub wrote_part : {l ws ys : List A} {i n : ℕ} → Room l i ws → n ≡ i + length ws → ys ≡ ws → Wrote l i ws (put_mid i (n - i) l ys) n
  wrote_part {l} {ws} {ys} {i} {n} r at is =
      let long : n - i ≡ length ws = omega arith in
      record { words = rw (is, long, drop-drop, sets-eq ws l i r.fits, append_assoc); after = at }
