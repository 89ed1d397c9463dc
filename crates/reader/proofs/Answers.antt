-- The reader's answer is the claim that the writer takes and that has the text, and 21 where there is none. Assumes nothing.
use Rattle.std.proofs.Common.{Result, Ok, Err}
use Rattle.checker.specs.declared.refusals.Refusal.TheVariants as refused
use mathlib.Core.Path.{◌≡◌, refl, sym, ap, ◌∙◌}
use mathlib.Core.Logic.{◌⊎◌, inl, inr}
use mathlib.Core.Bool.{Bool, true, false, cond, ◌&&◌, and-eq-true_iff, true≢false}
use mathlib.Core.List.{List, [], ◌∷◌, ◌++◌, map}
use Prim.Native.Nat.{ℕ, ◌≤◌, ◌<◌}
use native.Mathlib.Omega.{arith}
use borrow.Author.Tests.{lt-ltb, le-ltb}
use lib.IntN.{ℤ}
use lib.ListN.{length, drop, length-map}
use Rattle.checker.specs.declared.refusals.Refusal.{Refusal}
use Rattle.checker.specs.declared.Shape.{Shape}
use Rattle.checker.specs.declared.Dialect.TheVariants.{Emitted}
use Rattle.checker.specs.Claim.{Node, Claim}
use Rattle.checker.specs.Words.{quantifier_word, trailer, claim_of, words_of}
use Rattle.checker.specs.Check.{check_as}
use Rattle.checker.specs.Accepted.{KindsTaken}
use Rattle.checker.proofs.Words.{claim_words}
use Rattle.checker.proofs.Accepted.{ClaimedAs, accepted_claim_as}
use Rattle.checker.proofs.Emitted.{no_sets}
use Rattle.std.proofs.lemmas.Bool.{and_from}
use Rattle.sentence.specs.Sentences.{AllPlain, Plain}
use Rattle.sentence.specs.Text.{text_of}
use Rattle.sentence.specs.Scan.{scan}
use Rattle.sentence.specs.Reading.{Reads, Within}
use Rattle.sentence.proofs.Reading.{reads_once, reads_scan}
use Rattle.reader.specs.Held.{in_words, held}
use Rattle.reader.specs.Same.{same}
use Rattle.reader.specs.Runs.{limits}
use Rattle.reader.specs.Answer.{accepts, takes, WriterTakes, writes, given, answer, read_of, held_after, out_after}
use Rattle.reader.proofs.Words.{all_held_in, all_held, fields_small}
use Rattle.reader.proofs.Agrees.{same_true, same_refl}

-- ---- tests

alike : (a b : Bool) → (a ≡ true → b ≡ true) → (b ≡ true → a ≡ true) → a ≡ b
alike true b f g = sym (f refl)
alike false true f g = g refl
alike false false f g = refl

accepted : (k : Result Shape Refusal) → accepts k ≡ true → (s : Shape) × (k ≡ Ok s)
accepted (Ok s) e = (s, refl)
accepted (Err r) e = absurd (true≢false (sym e))

same_is : {bs text : List ℕ} → bs ≡ text → same bs text ≡ true
same_is {bs} e = rw (← e) (same_refl bs)

-- ---- what the writer takes is plain, and within the limits of a scan

plain_nodes : (ns : List Node) → KindsTaken Emitted ns → AllPlain ns
plain_nodes [] t = tt
plain_nodes (n ∷ ns) (e, es) = (e, plain_nodes ns es)

takes_parts : (c : Claim) → WriterTakes c → (in_words (words_of c) ≡ true) × (accepts (check_as Emitted (words_of c)) ≡ true)
unfolding takes
takes_parts c t = (and-eq-true_iff (in_words (words_of c)) (accepts (check_as Emitted (words_of c)))).0 t

claimed : (c : Claim) → WriterTakes c → (s : Shape) × ClaimedAs Emitted (words_of c) s
claimed c t =
    let (s, e) = accepted (check_as Emitted (words_of c)) (takes_parts c t).1 in
    (s, accepted_claim_as Emitted (words_of c) s e)

pub taken_plain : (c : Claim) → WriterTakes c → Plain c
taken_plain c t =
    let a = (claimed c t).1 in
    let p : Plain (claim_of (words_of c)) = record { nodes = plain_nodes (claim_of (words_of c)).nodes a.taken.nodes; quantifiers = no_sets (claim_of (words_of c)).quantifiers a.taken.quantifiers } in
    rw (claim_words c) at p

pub taken_within : (c : Claim) → WriterTakes c → Within limits c
unfolding words_of
taken_within c t =
    let a = (claimed c t).1 in
    let l = rw (claim_words c) at a.limited in
    let s = rw (claim_words c) at a.sorted in
    record {
      few_nodes = l.few_nodes;
      few_quantifiers = l.few_quantifiers;
      small_root = omega (arith, s.1.0, l.few_nodes);
      small_fields = fields_small c.nodes (map quantifier_word c.quantifiers ++ trailer c) (takes_parts c t).0;
    }

-- ---- the promise

module _ (text : List ℕ) where
  -- The claim that the writer takes and that has this text, if there is one, is what is scanned.
  scanned_reads : (c : Claim) → Reads WriterTakes text c → Reads WriterTakes text (scan limits text)
  scanned_reads = reads_scan WriterTakes taken_plain text limits taken_within

  scanned_is : (c : Claim) → Reads WriterTakes text c → scan limits text ≡ c
  scanned_is c r = reads_once WriterTakes taken_plain text (scan limits text) c (scanned_reads c r) r

  answer_given : (c : Claim) → Reads WriterTakes text c → (room : ℕ) → answer c text room ≡ given c room
  unfolding answer
  answer_given c (t, e) room = rw (t, same_is e)

  -- A text that the writer can have written is answered by its claim.
  pub read_given : (c : Claim) → Reads WriterTakes text c → (room : ℕ) → read_of text room ≡ given c room
  unfolding read_of
  read_given c r room = ap (λ d. answer d text room) (scanned_is c r) ∙ answer_given c r room

  -- And its words are in the output slice, if that has room.
  pub out_given : (c : Claim) → Reads WriterTakes text c → (out : List ℤ) → out_after text out ≡ held_after (given c (length out)) c out
  unfolding out_after
  out_given c r out = rw (read_given c r (length out), scanned_is c r)

  -- Every text is one that the writer can have written, or it is answered by 21.
  pub read_or_21 : ((c : Claim) × Reads WriterTakes text c) ⊎ ((room : ℕ) → read_of text room ≡ Err refused.Unwritten)
  unfolding read_of answer
  read_or_21 = at (takes (scan limits text) && same (text_of (scan limits text)) text) refl
    where
      at : (b : Bool) → (takes (scan limits text) && same (text_of (scan limits text)) text) ≡ b
          → ((c : Claim) × Reads WriterTakes text c) ⊎ ((room : ℕ) → cond (takes (scan limits text) && same (text_of (scan limits text)) text) (given (scan limits text) room) (Err refused.Unwritten) ≡ Err refused.Unwritten)
      at true e =
          let (t, s) = (and-eq-true_iff (takes (scan limits text)) (same (text_of (scan limits text)) text)).0 e in
          inl (scan limits text, (t, same_true (text_of (scan limits text)) text s))
      at false e = inr (λ room. rw e)

  -- A text that the writer cannot have written is refused by 21.
  pub read_none : ((c : Claim) → Reads WriterTakes text c → ⊥) → (room : ℕ) → read_of text room ≡ Err refused.Unwritten
  read_none n room = at read_or_21
    where
      at : ((c : Claim) × Reads WriterTakes text c) ⊎ ((room : ℕ) → read_of text room ≡ Err refused.Unwritten) → read_of text room ≡ Err refused.Unwritten
      at (inl (c, r)) = absurd (n c r)
      at (inr f) = f room

  -- A refusal leaves the output slice as it was.
  pub out_refused : (out : List ℤ) {r : Refusal} → read_of text (length out) ≡ Err r → out ≡ out_after text out
  unfolding out_after held_after
  out_refused out e = rw e

  -- ---- the words that were put

  -- Ok that the writer takes and writes as this text are a claim that it takes, and that has this text.
  written_reads : (ws : List ℤ) → in_words ws ≡ true → writes ws text ≡ true → Reads WriterTakes text (claim_of ws)
  unfolding writes takes
  written_reads ws i h =
      let (k, e) = (and-eq-true_iff (accepts (check_as Emitted ws)) (same (text_of (claim_of ws)) text)).0 h in
      let (s, f) = accepted (check_as Emitted ws) k in
      let w = (accepted_claim_as Emitted ws s f).words in
      (rw w (and_from _ _ i k), same_true (text_of (claim_of ws)) text e)

  reads_written : (c : Claim) → Reads WriterTakes text c → writes (map held (words_of c)) text ≡ true
  unfolding writes
  reads_written c (t, e) =
      let (i, k) = takes_parts c t in
      rw (all_held (words_of c) i, claim_words c) (and_from _ _ k (same_is e))

  pub writes_is : writes (map held (words_of (scan limits text))) text ≡ (takes (scan limits text) && same (text_of (scan limits text)) text)
  writes_is =
      let c = scan limits text in
      alike (writes (map held (words_of c)) text) (takes c && same (text_of c) text)
      (λ h. let (t, e) = scanned_reads _ (written_reads (map held (words_of c)) (all_held_in (words_of c)) h) in and_from _ _ t (same_is e))
      (λ h. let (t, s) = (and-eq-true_iff (takes c) (same (text_of c) text)).0 h in reads_written c (t, same_true (text_of c) text s))

  module _ (ws : List ℤ) (e : ws ≡ map held (words_of (scan limits text))) where
    told : (b : Bool) → writes ws text ≡ b → (takes (scan limits text) && same (text_of (scan limits text)) text) ≡ b
    told b h = sym writes_is ∙ ap (λ v. writes v text) (sym e) ∙ h

    count : length ws ≡ length (words_of (scan limits text))
    count = ap length e ∙ length-map (words_of (scan limits text)) held

    pub answered_21 : writes ws text ≡ false → (room : ℕ) → read_of text room ≡ Err refused.Unwritten
    unfolding read_of answer
    answered_21 h room = rw (told false h)

    pub answered_8 : writes ws text ≡ true → (room : ℕ) → room < length ws → read_of text room ≡ Err (refused.TooShort (length ws))
    unfolding read_of answer given
    answered_8 h room l =
        let k : room < length (words_of (scan limits text)) = omega (arith, count) in
        rw (told true h, lt-ltb room (length (words_of (scan limits text))) k, count)

    pub answered : writes ws text ≡ true → (room : ℕ) → length ws ≤ room → read_of text room ≡ Ok (length ws)
    unfolding read_of answer given
    answered h room l =
        let k : length (words_of (scan limits text)) ≤ room = omega (arith, count) in
        rw (told true h, le-ltb room (length (words_of (scan limits text))) k, count)

    pub words_are : writes ws text ≡ true → ws ≡ words_of (scan limits text)
    words_are h =
        let (t, s) = (and-eq-true_iff (takes (scan limits text)) (same (text_of (scan limits text)) text)).0 (told true h) in
        e ∙ all_held (words_of (scan limits text)) (takes_parts (scan limits text) t).0

-- ---- there and back

-- What the writer writes for words that it takes is read as those words.
pub read_back : (ws : List ℤ) (s : Shape) → in_words ws ≡ true → check_as Emitted ws ≡ Ok s → (out : List ℤ) → length ws ≤ length out
    → (read_of (text_of (claim_of ws)) (length out) ≡ Ok (length ws)) × (out_after (text_of (claim_of ws)) out ≡ ws ++ drop (length ws) out)
unfolding takes given held_after
read_back ws s i e out l =
    let c = claim_of ws in
    let w = (accepted_claim_as Emitted ws s e).words in
    let t : WriterTakes c = rw (w, i, e) in
    let room : given c (length out) ≡ Ok (length ws) = rw (w, le-ltb (length out) (length ws) l) in
    (read_given (text_of c) c (t, refl) (length out) ∙ room, out_given (text_of c) c (t, refl) out ∙ rw (room, w))
