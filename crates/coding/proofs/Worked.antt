-- A field's code, computed: &LATM is not &LAT; an attribute mark, which inside quotes is none; a pair of ampersands; one left over. Assumes nothing.
use mathlib.Core.Path.{◌≡◌, refl}
use mathlib.Core.Bool.{true, false}
use mathlib.Core.List.{[], ◌∷◌, ◌++◌}
use Rattle.text.specs.Bytes.{Bytes, bytes}
use Rattle.text.specs.Characters.{letter, digit, letter_or_digit}
use Rattle.rules.specs.Choice.{choose}
use Rattle.rules.specs.Lexemes.{byte_of, field_start, follows, is_mark, after, marked, symbols, lexed}
use Rattle.deck.specs.Slots.{system_slot}
use Rattle.deck.specs.Coders.{slot_code}
use Rattle.names.specs.Names.{rows_by, name_in, names_in, slot_in, slot_byte}
use Rattle.coding.specs.Coded.{code_by, field_code}

table : Bytes
table = 3 ∷ (bytes "LAT    " ++ (4 ∷ bytes "LATM   "))

line : Bytes
line = bytes "K'&LATM,'K'&LAT&&'&SYSNDX.&"

in-operand : field_code true table [] [] line ≡ 75 ∷ 127 ∷ 129 ∷ 44 ∷ 39 ∷ 75 ∷ 39 ∷ 128 ∷ 38 ∷ 38 ∷ 39 ∷ 225 ∷ 46 ∷ 255 ∷ []
unfolding table line field_code code_by lexed symbols marked is_mark follows after choose field_start letter digit letter_or_digit byte_of slot_byte slot_in names_in rows_by name_in slot_code system_slot
in-operand = refl

in-name : field_code false table [] [] line ≡ 75 ∷ 127 ∷ 129 ∷ 44 ∷ 39 ∷ 75 ∷ 127 ∷ 128 ∷ 38 ∷ 38 ∷ 39 ∷ 225 ∷ 46 ∷ 255 ∷ []
unfolding table line field_code code_by lexed symbols marked is_mark follows after choose field_start letter digit letter_or_digit byte_of slot_byte slot_in names_in rows_by name_in slot_code system_slot
in-name = refl
