-- Quoted text as bytes, so that a definition shows the text that it stands for.
-- Assumes nothing.
use Rattle.std.specs.Prelude.{List, [], ◌∷◌, ℕ}
use Prim.Native.Char.{code}
use Prim.Native.String.{String, [] as none, ◌∷◌ as ◌before◌}

-- the bytes of a text of ASCII characters
abbrev pub bytes : String → List ℕ
bytes none = []
bytes (c before s) = code c ∷ bytes s
