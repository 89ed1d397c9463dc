-- What a measured text and a text in a lent slice are after more bytes. Assumes nothing.
use Rattle.std.specs.Prelude.{◌≡◌, List, [], ◌++◌, ℕ, ◌+◌, ◌^◌, ◌<◌, ◌≤◌, length, refl}
use Rattle.std.proofs.Common.{◌∙◌, arith, length-append}
use Rattle.lent.specs.Write.{Wrote}
use Rattle.lent.proofs.Writing.{wrote_none, wrote_then}
use Rattle.solver.specs.declared.sinks.Length.{Length}
use Rattle.solver.specs.declared.sinks.Text.{Text}

-- The bytes are counted.
pub record LengthTook (s : Length) (bs : List ℕ) (t : Length) : Type 0 where
  pub counted : s.length + length bs < 2 ^ 64 → t.length ≡ s.length + length bs

pub length_none : (s : Length) → LengthTook s [] s
length_none s = record { counted = λ h. omega arith }

pub length_joined : (s t u : Length) (a b : List ℕ) → LengthTook s a t → LengthTook t b u → LengthTook s (a ++ b) u
length_joined s t u a b v w =
    let n = length-append a b in
    record {
      counted = λ h.
          let e = v.counted (omega arith) in
          let f = w.counted (omega arith) in
          omega arith;
    }

-- The slice is the same; the bytes are counted; and they are written behind the text, if they have room there.
pub record TextTook (s : Text) (bs : List ℕ) (t : Text) : Type 0 where
  pub same : t.out.ghost_name ≡ s.out.ghost_name
  pub long : length t.out.now ≡ length s.out.now
  pub counted : s.length + length bs < 2 ^ 64 → t.length ≡ s.length + length bs
  pub written : s.length + length bs ≤ length s.out.now → Wrote s.out.now s.length bs t.out.now t.length

pub text_none : (s : Text) → TextTook s [] s
text_none s =
    record { same = refl; long = refl; counted = λ h. omega arith; written = λ h. wrote_none s.out.now s.length }

pub text_joined : (s t u : Text) (a b : List ℕ) → TextTook s a t → TextTook t b u → TextTook s (a ++ b) u
text_joined s t u a b v w =
    let n = length-append a b in
    record {
      same = w.same ∙ v.same;
      long = w.long ∙ v.long;
      counted = λ h.
          let e = v.counted (omega arith) in
          let f = w.counted (omega arith) in
          omega arith;
      written = λ h.
          let first = v.written (omega arith) in
          wrote_then first (w.written (omega (arith, first.after, v.long)));
    }
