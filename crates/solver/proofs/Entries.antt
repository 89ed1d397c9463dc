-- What holds of the nodes that the entries of a sort table make holds of the node that one of them makes. Assumes nothing.
use mathlib.Core.Path.{◌≡◌, refl, sym}
use mathlib.Core.Bool.{Bool, true, false, cond}
use mathlib.Core.List.{List, [], ◌∷◌}
use mathlib.Core.Logic.{◌⊎◌, inl, inr}
use Prim.Native.Nat.{ℕ}
use borrow.Author.Tests.{eqb-true}
use lib.Dec.{eqb}
use lib.IntN.{ℤ}
use Rattle.checker.specs.Claim.{Node, unknown}
use Rattle.checker.specs.Kinds.{Entry, entry_in}

module _ (P : Node → Type 0) (k : ℕ) (a b : ℤ) where
  -- each of the entries is of another kind than k, or makes a node of which P holds
  abbrev pub Each : List Entry → Type 0
  Each [] = Unit {0}
  Each (e ∷ es) = ((k ≡ e.kind → ⊥) ⊎ P (e.node a b)) × Each es

  pub by_entry : (es : List Entry) → Each es → P unknown → P ((entry_in es k).node a b)
  by_entry [] h u = u
  by_entry (e ∷ es) (h, hs) u = go (eqb e.kind k) refl h (by_entry es hs u)
    where
      go : (t : Bool) → eqb e.kind k ≡ t → ((k ≡ e.kind → ⊥) ⊎ P (e.node a b)) → P ((entry_in es k).node a b) → P ((cond t e (entry_in es k)).node a b)
      go true p (inl n) q = absurd (n (sym (eqb-true e.kind k p)))
      go true p (inr y) q = y
      go false p h q = q
