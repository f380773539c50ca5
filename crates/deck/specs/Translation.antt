-- Translation as a definition: the deck, or number and line; and what it leaves in the deck buffer.
use Rattle.std.specs.Prelude.{ℕ, ◌++◌, leb, length, drop}
use Rattle.text.specs.Bytes.{Bytes}
use Rattle.rules.specs.Choice.{choose}
use Rattle.rules.specs.Limits.{no_room}
use Rattle.rules.specs.Faults.{Verdict, accepted, faulty, verdict}
use Rattle.deck.specs.Slots.{resolved_library}
use Rattle.deck.specs.Coders.{encoded}

unfoldable pub deck_of : Bytes → Bytes
deck_of library = encoded (resolved_library library)

pub data Translated : Type 0 where
  deck : Bytes → Translated
  refused : ℕ → ℕ → Translated

-- 01: "Translation answers 1 to 5 for the lowest faulty line, lowest number on it .., then 14 with line 0."
unfoldable pub translated_by : Verdict → Bytes → ℕ → Translated
translated_by (faulty e n) d room = refused e n
translated_by accepted d room = choose (leb (length d) room) (deck d) (refused no_room 0)

unfoldable pub translated : Bytes → ℕ → Translated
translated library room = translated_by (verdict library) (deck_of library) room

-- "A refusal leaves the deck buffer unchanged; success writes only the deck's bytes."
unfoldable pub buffer_after : Translated → Bytes → Bytes
buffer_after (deck d) buffer = d ++ drop (length d) buffer
buffer_after (refused e n) buffer = buffer
