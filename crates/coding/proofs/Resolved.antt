-- A field's code is the deck's: by tables that hold a macro's names, each lexeme's byte is `lex_code` of the lexeme resolved. Assumes nothing.
use Prim.Native.Nat.{◌≤◌}
use mathlib.Core.Path.{◌≡◌, refl, sym}
use mathlib.Core.Bool.{Bool}
use mathlib.Core.List.{List, map}
use lib.ListN.{length}
use Rattle.text.specs.Bytes.{Bytes}
use Rattle.rules.specs.Lexemes.{Lex, byte, mark, ref, lone, lexed}
use Rattle.rules.specs.Statement.{Set, map_lex}
use Rattle.rules.specs.Library.{Names, firsts}
use Rattle.rules.specs.ByLines.{own_names}
use Rattle.deck.specs.Slots.{resolved}
use Rattle.deck.specs.Coders.{lex_code}
use Rattle.deck.proofs.Lists.{map-map}
use Rattle.names.specs.Names.{names_in, slot_byte}
use Rattle.names.proofs.Slots.{byte-resolved}
use Rattle.coding.specs.Coded.{code_by, field_code}

module _ (names : Names) (globals : List (Bytes × Set)) (own global shared : Bytes)
    (o : names_in own ≡ own_names names) (g : names_in global ≡ firsts names.globals) (s : names_in shared ≡ firsts globals)
    (few : length (own_names names) ≤ 64) (fewer : length globals ≤ 32) where
  lexeme-resolved : (x : Lex Bytes) → lex_code (map_lex (resolved names globals) x) ≡ code_by (slot_byte own global shared) x
  unfolding lex_code map_lex code_by
  lexeme-resolved (byte c) = refl
  lexeme-resolved mark = refl
  lexeme-resolved (ref n) = sym (byte-resolved names globals n own global shared o g s few fewer)
  lexeme-resolved lone = refl

  pub field-resolved : (quotes : Bool) (field : Bytes) → field_code quotes own global shared field ≡ map lex_code (map (map_lex (resolved names globals)) (lexed quotes field))
  unfolding field_code
  field-resolved quotes field = sym (map-map (map_lex (resolved names globals)) lex_code lexeme-resolved (lexed quotes field))
