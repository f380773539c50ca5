-- The symbols that an operand's parts start with, told one by one. Assumes nothing.
use Rattle.std.specs.Prelude.{true, List, map}
use Rattle.text.specs.Bytes.{Bytes}
use Rattle.rules.specs.Lexemes.{lexed}
use Rattle.rules.specs.Library.{start_symbols}
use Rattle.parts.specs.Parts.{parts_left}
use Rattle.operands.specs.declared.Symbols.{Symbols}

-- the symbols that are still to come
abbrev pub symbols_left : Symbols → List Bytes
symbols_left symbols = start_symbols (map (lexed true) (parts_left symbols.parts))
