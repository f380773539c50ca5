-- What an operand declares, and what tables say of names that are declared already. Assumes nothing.
use Rattle.std.specs.Prelude.{ℕ, Bool, true, ◌||◌, not, List, [], ◌∷◌, ◌++◌, eqb, get_or, drop}
use Rattle.text.specs.Bytes.{Bytes, bytes, same}
use Rattle.rules.specs.Choice.{choose, any}
use Rattle.rules.specs.Lexemes.{lexed}
use Rattle.rules.specs.Fields.{starts_with}
use Rattle.rules.specs.Statement.{Set, set_a, set_b, set_c}
use Rattle.rules.specs.Calls.{divided}
use Rattle.rules.specs.Library.{start_symbols}
use Rattle.names.specs.Names.{names_in}

-- the symbols that an operand's parts start with
unfoldable pub symbols_in : Bytes → List Bytes
symbols_in operand = start_symbols (divided (lexed true operand))

-- a name that a macro has declared, by the tables of its own names and of its GBL statements' names
unfoldable pub is_taken : Bytes → Bytes → Bytes → Bool
is_taken own global n = any (same n) (names_in own ++ names_in global)

-- a symbol that may not be declared: it begins SYS, was declared before, or is declared again
abbrev pub is_wrong : (Bytes → Bool) → List Bytes → Bytes → Bool
is_wrong before later n = starts_with (bytes "SYS") n || (before n || any (same n) later)

-- a symbol that is none of these
abbrev pub is_new : List Bytes → Bytes → Bool
is_new names n = not (any (same n) names)

-- a SET symbol's kind, as tables have it
unfoldable pub set_numbered : ℕ → Set
set_numbered n = choose (eqb n 1) set_a (choose (eqb n 2) set_b set_c)

-- names with the kinds that stand beside them
unfoldable pub with_kinds : List Bytes → Bytes → List (Bytes × Set)
with_kinds [] ks = []
with_kinds (n ∷ ns) ks = (n, set_numbered (get_or ks 0 0)) ∷ with_kinds ns (drop 1 ks)

-- the library's globals; their kinds stand from place 64 on
unfoldable pub globals_in : Bytes → Bytes → List (Bytes × Set)
globals_in shared kinds = with_kinds (names_in shared) (drop 64 kinds)
