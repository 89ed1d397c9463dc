-- The laws of `Quantified`: exists and for-all at once. Assumes nothing.
use mathlib.Core.Logic.{◌↔◌}
use mathlib.Core.Bool.{Bool, true, false}
use Rattle.checker.specs.Meaning.{Quantified}

-- Two ways to quantify come to the same if each has for every choice of the other one that says the same.
pub quantified : (some : Bool) {A B : Type 0} {P : A → Type 0} {Q : B → Type 0} (to : A → B) (from : B → A)
    → ((a : A) → P a ↔ Q (to a)) → ((b : B) → P (from b) ↔ Q b) → Quantified some A P ↔ Quantified some B Q
quantified true to from f g = (λ t. (to t.0, (f t.0).0 t.1), λ t. (from t.0, (g t.0).1 t.1))
quantified false to from f g = (λ t b. (g b).0 (t (from b)), λ t a. (f a).1 (t (to a)))

pub quantified_same : (some : Bool) {A : Type 0} {P Q : A → Type 0} → ((a : A) → P a ↔ Q a) → Quantified some A P ↔ Quantified some A Q
quantified_same some f = quantified some (λ a. a) (λ a. a) f f

pub quantified_imp : (some : Bool) {A B : Type 0} {P : A → Type 0} {Q : B → Type 0} (to : A → B) (from : B → A)
    → ((a : A) → P a → Q (to a)) → ((b : B) → P (from b) → Q b) → Quantified some A P → Quantified some B Q
quantified_imp true to from f g = λ t. (to t.0, f t.0 t.1)
quantified_imp false to from f g = λ t b. g b (t (from b))

-- If every choice says X, so does the quantifier; and two of a kind, one inside the other, are one over pairs.
pub quantified_any : (some : Bool) {A : Type 0} {P : A → Type 0} {X : Type 0} → A → ((a : A) → P a ↔ X) → Quantified some A P ↔ X
quantified_any true a f = (λ t. (f t.0).0 t.1, λ x. (a, (f a).1 x))
quantified_any false a f = (λ t. (f a).0 (t a), λ x b. (f b).1 x)

pub quantified_pair : (some : Bool) (A B : Type 0) (P : A → B → Type 0)
    → Quantified some A (λ a. Quantified some B (λ b. P a b)) ↔ Quantified some (A × B) (λ x. P x.0 x.1)
quantified_pair true A B P = (λ t. ((t.0, t.1.0), t.1.1), λ t. (t.0.0, (t.0.1, t.1)))
quantified_pair false A B P = (λ t x. t x.0 x.1, λ t a b. t (a, b))
