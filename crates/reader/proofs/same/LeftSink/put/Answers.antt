-- `reader::same::Left` is left as bytes are put. Assumes nothing.
use Rattle.std.proofs.Common.{◌≡◌, ◌≢◌, ◌↔◌, Option, Some, None, List, ◌++◌, ℕ, ap, sym, ◌∙◌, Bor, MatchOption}
use Rattle.std.specs.Option.{option_copied}
use Rattle.std.proofs.lemmas.List.Prefix.{front_rest}
use Rattle.std.proofs.lemmas.Bool.Decides.{Decides-eqb}
use Rattle.std.proofs.lemmas.Slice.Eq.{strip_prefix_is}
use Rattle.reader.proofs.same.LeftSink.put.Goals as goal

-- what is left of s behind p
stripped : (s p : List ℕ) (r : Option (Bor (List ℕ))) → MatchOption r ((rest : List ℕ) → s ≢ p ++ rest) (λ x. s ≡ p ++ x.now)
    → (rest : List ℕ) → (Some s ≡ Some (p ++ rest)) ↔ (option_copied r ≡ Some rest)
stripped s p None h rest = (λ e. absurd (h rest cc), λ e. cc)
stripped s p (Some x) h rest =
    (λ e. ap Some (sym (front_rest s p x.now h) ∙ front_rest s p rest cc), λ e. let f : x.now ≡ rest = cc in ap Some (h ∙ ap (λ z. p ++ z) f))

pub returns-in-Some : goal.returns-in-Some
returns-in-Some c = rw c.in-Some.is (stripped _ c.args.bytes.now _ (strip_prefix_is Decides-eqb _ _ _ c.strip_prefix-self.ensures.cases))
