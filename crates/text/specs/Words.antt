-- The sixteen language words of document 01, "Definitions", and which of them an operation is. Assumes nothing.
use Rattle.std.specs.Prelude.{ℕ, suc, true, false, List, [], ◌∷◌}
use Rattle.text.specs.Bytes.{Bytes, bytes, same}

-- 01: "The sixteen language words are MACRO MEND MEXIT LCLA LCLB LCLC GBLA GBLB GBLC SETA SETB SETC AIF AGO ANOP ACTR."
unfoldable pub words : List Bytes
words =
    bytes "MACRO" ∷ bytes "MEND" ∷ bytes "MEXIT" ∷ bytes "LCLA" ∷ bytes "LCLB" ∷ bytes "LCLC" ∷ bytes "GBLA" ∷ bytes "GBLB" ∷ bytes "GBLC"
    ∷ bytes "SETA" ∷ bytes "SETB" ∷ bytes "SETC" ∷ bytes "AIF" ∷ bytes "AGO" ∷ bytes "ANOP" ∷ bytes "ACTR" ∷ []

-- the place of the first of the texts that is `s`, counted from 0; how many there are where none is
abbrev pub place_among : List Bytes → Bytes → ℕ
place_among [] s = 0
place_among (w ∷ ws) s = elim (same w s) [ true ↦ 0 | false ↦ suc (place_among ws s) ]

-- the language word that an operation is, by its place in `words`; 16 where it is none
unfoldable pub word_number : Bytes → ℕ
word_number operation = place_among words operation
