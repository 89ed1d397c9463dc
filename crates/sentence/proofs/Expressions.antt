-- A node's expression is read back from its text. Assumes nothing.
use mathlib.Core.Path.{◌≡◌, refl, sym}
use mathlib.Core.Bool.{true, false, true≢false}
use mathlib.Core.List.{List, ◌++◌, append_assoc}
use Prim.Native.Nat.{ℕ, zero, suc, ◌≤◌}
use Prim.Native.Char.{code}
use Prim.Native.String.{String}
use lib.IntN.{pos, negsuc, neg_ℤ, nat_abs}
use lib.Dec.{eqb}
use lib.ListN.{get_or}
use lib.Seq.{drop-append_seam}
use Rattle.checker.specs.Claim.{Node, set_var, empty, whole, union, inter, compl, num_var, const, maxc, sum, diff, multiple, card, equal, less, divided, set_equal, subset, conj, disj, neg, unknown}
use Rattle.checker.specs.Words.{fields_of}
use Rattle.decimal.specs.Reading.{digit}
use Rattle.decimal.specs.Printing.{decimal_of, decimal}
use Rattle.sentence.specs.Bytes.{bytes}
use Rattle.sentence.specs.Sentences.{expr_of, plain}
use Rattle.sentence.specs.Text.{name_text, expr_text}
use Rattle.sentence.specs.Scan.{found, one_from, two_from, minus_from, times_from, equal_from, and_from, bracket_from, expr_from}
use Rattle.sentence.proofs.Numbers.{Stops, starts_other, number_read}

pub zero_text : decimal 0 ≡ bytes "0"
unfolding decimal decimal_of
zero_text = refl

-- two parts with bytes between and after them, and what follows
pub parts : (a s b t bs : List ℕ) → (a ++ (s ++ (b ++ t))) ++ bs ≡ a ++ (s ++ (b ++ (t ++ bs)))
parts a s b t bs = simp append_assoc

-- the first byte of a number, whatever stands behind it
starts_so : (x : ℕ) → digit x ≡ false → (n : ℕ) (s bs : List ℕ) → eqb (get_or ((decimal n ++ s) ++ bs) 0 0) x ≡ false
starts_so x h n s bs = rw (append_assoc (decimal n) s bs) (starts_other x h n (s ++ bs))

module _ (most : ℕ) where
  one_read : (f : ℕ → Node) (after : String) (n : ℕ) (bs : List ℕ) → n ≤ most → Stops (bytes after ++ bs)
      → one_from most f after (decimal n ++ (bytes after ++ bs)) ≡ found (f n) bs
  unfolding one_from
  one_read f after n bs l h = rw (number_read most n (bytes after ++ bs) l h, drop-append_seam (bytes after) bs)

  two_read : (f : ℕ → ℕ → Node) (between after : String) (a b : ℕ) (bs : List ℕ) → a ≤ most → b ≤ most
      → Stops (bytes between ++ (decimal b ++ (bytes after ++ bs))) → Stops (bytes after ++ bs)
      → two_from most f between after ((decimal a ++ (bytes between ++ (decimal b ++ bytes after))) ++ bs) ≡ found (f a b) bs
  unfolding two_from
  two_read f between after a b bs l m h k =
      let next = decimal b ++ (bytes after ++ bs) in
      rw (parts (decimal a) (bytes between) (decimal b) (bytes after) bs, number_read most a (bytes between ++ next) l h, drop-append_seam (bytes between) next, number_read most b (bytes after ++ bs) m k, drop-append_seam (bytes after) bs)

  -- a closing bracket follows an expression
  pub expr_read : (n : Node) → plain n ≡ true → nat_abs (fields_of n).a ≤ most → nat_abs (fields_of n).b ≤ most → (bs : List ℕ)
      → expr_from most (expr_text (expr_of n) ++ (bytes ")" ++ bs)) ≡ found n (bytes ")" ++ bs)
  unfolding expr_text name_text expr_from bracket_from minus_from times_from equal_from and_from
  expr_read (set_var q) p l m bs = absurd (true≢false (sym p))
  expr_read empty p l m bs = absurd (true≢false (sym p))
  expr_read whole p l m bs = absurd (true≢false (sym p))
  expr_read (union x y) p l m bs = absurd (true≢false (sym p))
  expr_read (inter x y) p l m bs = absurd (true≢false (sym p))
  expr_read (compl x) p l m bs = absurd (true≢false (sym p))
  expr_read (num_var q) p l m bs = one_read num_var "" q (bytes ")" ++ bs) l refl
  expr_read (const (pos c)) p l m bs =
      rw (starts_other (code "(") refl c (bytes ")" ++ bs), starts_other (code "q") refl c (bytes ")" ++ bs), starts_other (code "M") refl c (bytes ")" ++ bs))
      (one_read (λ k. const (pos k)) "" c (bytes ")" ++ bs) l refl)
  expr_read (const (negsuc c)) p l m bs =
      rw (starts_so (code "n") refl (suc c) (bytes ")") (bytes ")" ++ bs), append_assoc (decimal (suc c)) (bytes ")") (bytes ")" ++ bs))
      (one_read (λ k. const (neg_ℤ (pos k))) ")" (suc c) (bytes ")" ++ bs) l refl)
  expr_read maxc p l m bs = refl
  expr_read (sum x y) p l m bs = two_read sum " n" ")" x y (bytes ")" ++ bs) l m refl refl
  expr_read (diff x y) p l m bs = two_read diff " n" ")" x y (bytes ")" ++ bs) l m refl refl
  expr_read (multiple (pos c) y) p l m bs =
      rw (starts_so (code "(") refl c (bytes " n" ++ (decimal y ++ bytes ")")) (bytes ")" ++ bs))
      (two_read (λ k b. multiple (pos k) b) " n" ")" c y (bytes ")" ++ bs) l m refl refl)
  expr_read (multiple (negsuc c) y) p l m bs =
      rw (append_assoc (decimal (suc c)) (bytes ")") (bytes " n" ++ (decimal y ++ bytes ")")))
      (two_read (λ k b. multiple (neg_ℤ (pos k)) b) ") n" ")" (suc c) y (bytes ")" ++ bs) l m refl refl)
  expr_read (card x) p l m bs = absurd (true≢false (sym p))
  expr_read (equal x y) p l m bs = two_read equal " n" ")" x y (bytes ")" ++ bs) l m refl refl
  expr_read (less x y) p l m bs = two_read less " n" ")" x y (bytes ")" ++ bs) l m refl refl
  expr_read (divided (pos zero) y) p l m bs =
      rw (zero_text, append_assoc (decimal y) (bytes " 0)") (bytes ")"), append_assoc (decimal y) (bytes " 0))") (bytes ")" ++ bs))
      (one_read (divided (pos 0)) " 0))" y (bytes ")" ++ bs) m refl)
  expr_read (divided (pos (suc c)) y) p l m bs =
      rw (zero_text, parts (decimal y) (bytes " ") (decimal (suc c)) (bytes ")") (bytes " 0)"))
      (two_read (λ b k. divided (pos k) b) " " ") 0)" y (suc c) (bytes ")" ++ bs) m l refl refl)
  expr_read (divided (negsuc c) y) p l m bs =
      rw (zero_text, parts (decimal y) (bytes " ") (decimal (suc c)) (bytes ")") (bytes ")"))
      (two_read (λ b k. divided (neg_ℤ (pos k)) b) " " "))" y (suc c) (bytes ")" ++ bs) m l refl refl)
  expr_read (set_equal x y) p l m bs = absurd (true≢false (sym p))
  expr_read (subset x y) p l m bs = absurd (true≢false (sym p))
  expr_read (conj x y) p l m bs = two_read conj " n" ")" x y (bytes ")" ++ bs) l m refl refl
  expr_read (disj x y) p l m bs = two_read disj " n" ")" x y (bytes ")" ++ bs) l m refl refl
  expr_read (neg x) p l m bs = rw (append_assoc (decimal x) (bytes ")") (bytes ")" ++ bs)) (one_read neg ")" x (bytes ")" ++ bs) l refl)
  expr_read unknown p l m bs = absurd (true≢false (sym p))
