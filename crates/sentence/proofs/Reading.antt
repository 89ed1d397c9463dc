-- A claim is read back from its text, so no two claims have one text. Assumes nothing.
use mathlib.Core.Path.{◌≡◌, refl, sym, ap, ◌∙◌}
use mathlib.Core.List.{List, [], ◌∷◌, ◌++◌}
use Prim.Native.Nat.{ℕ, ◌+◌, ◌≤◌}
use native.Mathlib.Omega.{arith}
use lib.IntN.{nat_abs}
use lib.ListN.{length}
use Rattle.checker.specs.Claim.{Node, Claim}
use Rattle.checker.specs.Words.{fields_of}
use Rattle.sentence.specs.Bytes.{bytes}
use Rattle.sentence.specs.Sentences.{Plain}
use Rattle.sentence.specs.Text.{text_of}
use Rattle.sentence.specs.Lines.{ending, brackets, closing, lines_of}
use Rattle.sentence.specs.Scan.{Limits, scan}
use Rattle.sentence.specs.Reading.{Reads, AllWithin, Within}
use Rattle.sentence.proofs.Lines.{text_lines}
use Rattle.sentence.proofs.Numbers.{number_read}
use Rattle.sentence.proofs.ReadLines.{nodes_read, quantifiers_read}

pub scan_text : (most : Limits) (c : Claim) → Plain c → Within most c → scan most (text_of c) ≡ c
unfolding scan lines_of
scan_text most c p w =
    let m = most.number in
    let last = closing (length c.nodes + brackets c.quantifiers + 2) ++ ending in
    rw (text_lines c, quantifiers_read m most.quantifiers 0 c.quantifiers c.nodes c.root last p.quantifiers w.few_quantifiers, nodes_read m most.nodes 0 c.nodes c.root last p.nodes w.small_fields w.few_nodes, number_read m c.root (bytes "\n" ++ last) w.small_root refl)

-- a limit that no field of the nodes is over
sizes : List Node → ℕ
sizes [] = 0
sizes (n ∷ ns) = nat_abs (fields_of n).a + nat_abs (fields_of n).b + sizes ns

all_within : (most : ℕ) (ns : List Node) → sizes ns ≤ most → AllWithin most ns
unfolding sizes
all_within most [] h = tt
all_within most (n ∷ ns) h = (omega arith, omega arith, all_within most ns (omega arith))

-- limits that a claim is within, with room for more
wide : Claim → Claim → Limits
wide c d =
    record {
      nodes = length c.nodes + length d.nodes;
      quantifiers = length c.quantifiers + length d.quantifiers;
      number = c.root + d.root + (sizes c.nodes + sizes d.nodes);
    }

pub text_once : (c d : Claim) → Plain c → Plain d → text_of c ≡ text_of d → c ≡ d
unfolding wide
text_once c d p q e =
    sym (scan_text (wide c d) c p (record { few_nodes = omega arith; few_quantifiers = omega arith; small_root = omega arith; small_fields = all_within _ c.nodes (omega arith) }))
    ∙ ap (scan (wide c d)) e
    ∙ scan_text (wide c d) d q (record { few_nodes = omega arith; few_quantifiers = omega arith; small_root = omega arith; small_fields = all_within _ d.nodes (omega arith) })

-- ---- the reader's answer

module _ (Taken : Claim → Type 0) (taken_plain : (c : Claim) → Taken c → Plain c) (text : List ℕ) where
  -- at most one claim that the writer takes has this text
  pub reads_once : (c d : Claim) → Reads Taken text c → Reads Taken text d → c ≡ d
  reads_once c d (p, e) (q, f) = text_once c d (taken_plain c p) (taken_plain d q) (e ∙ sym f)

  -- and if there is one, then it is what the text was scanned as
  pub reads_scan : (most : Limits) → ((c : Claim) → Taken c → Within most c) → (c : Claim) → Reads Taken text c → Reads Taken text (scan most text)
  reads_scan most within c (p, e) =
      let s : scan most text ≡ c = ap (scan most) (sym e) ∙ scan_text most c (taken_plain c p) (within c p) in
      rw s (p, e)
