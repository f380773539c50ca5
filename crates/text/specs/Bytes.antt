-- Texts as lists of bytes, and the tests that definitions are made of. Assumes nothing.
use Rattle.std.specs.Prelude.{ℕ, Bool, true, false, ◌&&◌, ◌||◌, List, [], ◌∷◌, eqb}
use Prim.Native.Char.{code}
use Prim.Native.String.{String, [] as ε, ◌∷◌ as ◌▹◌}

abbrev pub Bytes : Type 0
Bytes = List ℕ

-- a quoted text as its bytes
abbrev pub bytes : String → Bytes
bytes ε = []
bytes (c ▹ s) = code c ∷ bytes s

-- the same bytes, as many and in the same order
abbrev pub same : Bytes → Bytes → Bool
same [] [] = true
same [] (d ∷ t) = false
same (c ∷ s) [] = false
same (c ∷ s) (d ∷ t) = eqb c d && same s t

-- the byte is one of them
abbrev pub member : ℕ → Bytes → Bool
member c [] = false
member c (d ∷ s) = eqb c d || member c s
