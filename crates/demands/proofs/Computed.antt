-- The deck of a library, opened for computing.
use Rattle.text.specs.Bytes.{Bytes}
use Rattle.rules.proofs.Computing.{answers}
use Rattle.deck.specs.Coding as Coding
use Rattle.deck.specs.Coders as Coders
use Rattle.deck.specs.Slots as Slots
use Rattle.deck.specs.Translation.{deck_of}

unfoldable pub deck_computed : Bytes → Bytes
unfolding answers deck_of Coding.byte Coding.two Coding.four Coding.pair Coding.via Coding.put_all Coding.list_of Coders.encoded Coders.contents Coders.macro Coders.string Coders.parts_of Coders.kind Coders.flag Coders.flag_code Coders.line Coders.put_line_by Coders.field Coders.lexeme Coders.lex_code Coders.slot_code Coders.set_code Slots.resolved_library Slots.deck_in Slots.deck_macro Slots.resolved_line Slots.resolved Slots.system_slot
deck_computed library = deck_of library
