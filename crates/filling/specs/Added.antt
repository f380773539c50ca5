-- Tables of the library's globals, names and kinds, when further ones are put into them. Assumes nothing.
use Rattle.std.specs.Prelude.{ℕ, ◌*◌, ◌≡◌, List, map, length, take, drop}
use Rattle.text.specs.Bytes.{Bytes}
use Rattle.rules.specs.Statement.{Set}
use Rattle.rules.specs.Grammar.{symbol}
use Rattle.rules.specs.Library.{of_kind, firsts, with_globals}
use Rattle.deck.specs.Coders.{set_code}
use Rattle.names.specs.Names.{names_in}
use Rattle.grammar.specs.Kinds.{number_of}

-- a global's kind, as the table of kinds has it
abbrev pub number : Bytes × Set → ℕ
number g = number_of (symbol g.1)

-- the first `rows` rows are these globals, their kinds stand from place 64 on, and the kinds before them are those of `before`
pub record Added (gs : List (Bytes × Set)) (before shared kinds : Bytes) (rows : ℕ) : Type 0 where
  pub counted : rows ≡ length gs
  pub listed : names_in (take (rows * 8) shared) ≡ firsts gs
  pub numbered : take rows (drop 64 kinds) ≡ map number gs
  pub kept : take 64 kinds ≡ take 64 before

-- whatever globals the first tables hold, the second hold them and those of the names that were not among them, of the kind that `set` tells
abbrev pub Adds : ℕ → Bytes → Bytes → ℕ → List Bytes → Bytes → Bytes → ℕ → Type 0
Adds set shared kinds rows ns shared' kinds' rows' =
    (k : Set) (gs : List (Bytes × Set)) → set ≡ set_code k → names_in (take (rows * 8) shared) ≡ firsts gs → take (length gs) (drop 64 kinds) ≡ map number gs
    → length gs ≡ rows → Added (with_globals gs (of_kind k ns)) kinds shared' kinds' rows'
