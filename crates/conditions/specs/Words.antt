-- The words of a condition, as tests. Assumes nothing.
use Rattle.std.specs.Prelude.{Bool, ◌||◌, List}
use Rattle.text.specs.Bytes.{bytes}
use Rattle.rules.specs.Lexemes.{Lex}
use Rattle.rules.specs.Grammar.{Kind, is_word}

-- one of the six relations stands first
unfoldable pub is_relation : List (Lex Kind) → Bool
is_relation x =
    ((((is_word (bytes "EQ") x || is_word (bytes "NE") x) || is_word (bytes "LT") x) || is_word (bytes "LE") x) || is_word (bytes "GT") x) || is_word (bytes "GE") x
