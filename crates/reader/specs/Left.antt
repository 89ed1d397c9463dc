-- What is left of a text behind bytes that it should begin with. Assumes nothing.
use Rattle.std.specs.Prelude.{◌≡◌, ◌↔◌, List, [], ◌++◌, ℕ, Some}
use Rattle.std.specs.Option.{option_copied}
use Rattle.std.proofs.Common.{ap, sym, ◌∙◌, append_assoc}
use Rattle.reader.specs.declared.same.Left.{Left}

-- After the bytes bs that is left which stood behind them; if they did not stand there, nothing is.
abbrev pub LeftTook : Left → List ℕ → Left → Type 0
LeftTook s bs t = (rest : List ℕ) → (option_copied s.rest ≡ Some (bs ++ rest)) ↔ (option_copied t.rest ≡ Some rest)

pub left_none : (s : Left) → LeftTook s [] s
left_none s rest = (λ e. e, λ e. e)

pub left_joined : (s t u : Left) (a b : List ℕ) → LeftTook s a t → LeftTook t b u → LeftTook s (a ++ b) u
left_joined s t u a b v w rest =
    let e = ap Some (append_assoc a b rest) in
    (λ l. (w rest).0 ((v (b ++ rest)).0 (l ∙ e)), λ l. (v (b ++ rest)).1 ((w rest).1 l) ∙ sym e)
