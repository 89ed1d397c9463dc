-- Writing into a lent list: what there is room for, and what was written.
-- Assumes nothing.
use Rattle.std.specs.Prelude.{◌≡◌, List, ℕ, ◌+◌, ◌≤◌, length}
use Rattle.std.proofs.lemmas.List.Edits.{sets}

-- the elements ws have room in l from place i on
pub record Room {A : Type 0} (l : List A) (i : ℕ) (ws : List A) : Type 0 where
  pub fits : i + length ws ≤ length l

-- From l to l' the elements ws were written from place i on, and `next` is the place after them.
pub record Wrote {A : Type 0} (l : List A) (i : ℕ) (ws l' : List A) (next : ℕ) : Type 0 where
  pub words : l' ≡ sets l i ws
  pub after : next ≡ i + length ws
