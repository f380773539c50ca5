-- Tables that hold a macro's names and their kinds, and the library's globals; and a field's bytes with a symbol that is not known. Assumes nothing.
use Rattle.std.specs.Prelude.{◌≤◌, ◌<◌, ◌≡◌, Bool, List, map, eqb, length, get_or, take, drop}
use Rattle.text.specs.Bytes.{Bytes}
use Rattle.text.specs.Words.{place_among}
use Rattle.rules.specs.Choice.{any}
use Rattle.rules.specs.Statement.{Set, set_a}
use Rattle.rules.specs.Grammar.{symbol}
use Rattle.rules.specs.Library.{Names, firsts, seconds}
use Rattle.rules.specs.ByLines.{own_names, own_kinds}
use Rattle.deck.specs.Coders.{unknown_code}
use Rattle.names.specs.Names.{names_in}
use Rattle.grammar.specs.Kinds.{number_of}

unfoldable pub unknown_in : Bytes → Bool
unknown_in s = any (λ b. eqb b unknown_code) s

-- tables that hold a macro's names and their kinds, and the library's globals: own names, the names of the macro's GBL statements, the library's globals, and the
-- kinds of slots (own from 0 on, globals from 64 on)
pub record Held (names : Names) (globals : List (Bytes × Set)) (own global shared kinds : Bytes) : Type 0 where
  pub mine : names_in own ≡ own_names names
  pub theirs : names_in global ≡ firsts names.globals
  pub ours : names_in shared ≡ firsts globals
  pub my-kinds : take (length (own_names names)) kinds ≡ map number_of (own_kinds names)
  pub our-kinds : take (length globals) (drop 64 kinds) ≡ map (λ g. number_of (symbol g.1)) globals
  pub few : length (own_names names) ≤ 64
  pub fewer : length globals ≤ 32
  -- each global of the macro is one of the library's, of the same kind
  pub agree : (n : Bytes) → place_among (firsts names.globals) n < length names.globals
      → (place_among (firsts globals) n < length globals)
      × (get_or (seconds globals) (place_among (firsts globals) n) set_a ≡ get_or (seconds names.globals) (place_among (firsts names.globals) n) set_a)
