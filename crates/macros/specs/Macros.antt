-- A macro of an accepted library, the tables that hold that library's globals, and what writing the macro needs. Assumes nothing.
use Rattle.std.specs.Prelude.{ℕ, ◌+◌, ◌*◌, ◌-◌, ◌≤◌, ◌≡◌, false, List, [], ◌∷◌, ◌++◌, map, length, take, drop}
use Rattle.text.specs.Bytes.{Bytes}
use Rattle.rules.specs.Limits.{line_limit}
use Rattle.rules.specs.Fields.{lines_of, is_remark}
use Rattle.rules.specs.Statement.{Set}
use Rattle.rules.specs.Grammar.{symbol}
use Rattle.rules.specs.Library.{Macro, outer, macros_from, firsts, globals_of}
use Rattle.rules.specs.ByLines.{reading}
use Rattle.rules.specs.Faults.{accepted, verdict}
use Rattle.deck.specs.Coding.{list_of}
use Rattle.deck.specs.Coders.{kind}
use Rattle.names.specs.Names.{names_in}
use Rattle.grammar.specs.Kinds.{number_of}
use Rattle.declaring.specs.Declared.{globals_in}
use Rattle.collecting.specs.declared.Rows.{Rows as Counts}
use Rattle.collecting.specs.Collected.{Sizes}
use Rattle.headers.specs.Headers.{header_of}
use Rattle.bodies.specs.Lines.{body_in}
use Rattle.bodies.specs.Room.{AllReady}
use Rattle.decks.specs.Decks.{macro_put}

-- ---- a macro of a library

-- the globals of a library
abbrev pub globals_of_library : Bytes → List (Bytes × Set)
globals_of_library library = globals_of [] (map (λ r. r.names) (map reading (macros_from outer (lines_of library))))

-- a macro of an accepted library with these globals
pub record Member (globals : List (Bytes × Set)) (m : Macro) : Type 0 where
  pub library : Bytes
  pub is-accepted : verdict library ≡ accepted
  pub globals-are : globals ≡ globals_of_library library
  pub before : List Macro
  pub behind : List Macro
  pub macros-are : macros_from outer (lines_of library) ≡ before ++ (m ∷ behind)

-- a macro by the bytes of its prototype and of its body
abbrev pub macro_of : Bytes → Bytes → Macro
macro_of prototype body = record { prototype = prototype; body = lines_of body }

-- ---- tables

-- the first `rows` rows are these globals, and their kinds stand from place 64 on
pub record Holds (globals : List (Bytes × Set)) (rows : ℕ) (shared kinds : Bytes) : Type 0 where
  pub counted : length globals ≡ rows
  pub listed : names_in (take (rows * 8) shared) ≡ firsts globals
  pub numbered : take rows (drop 64 kinds) ≡ map (λ g. number_of (symbol g.1)) globals

-- the globals that the first rows are
abbrev pub globals_at : ℕ → Bytes → Bytes → List (Bytes × Set)
globals_at rows shared kinds = globals_in (take (rows * 8) shared) kinds

-- the sizes of the tables, and of a buffer for a line's codes
pub record Lent (own global shared kinds code : Bytes) : Type 0 where
  pub sizes : Sizes own global shared kinds
  pub codes : line_limit ≤ length code

-- ---- what is written

-- a macro's bytes by its prototype, the kinds of its locals, and the tables of its names
unfoldable pub parts_put : Bytes → List Set → Bytes → Bytes → Bytes → Bytes → Bytes
parts_put prototype locals own global shared body = header_of prototype ++ ((list_of kind).put locals ++ body_in own global shared body)

pub record Parts (prototype body kinds own global shared code out : Bytes) (at : ℕ) : Type 0 where
  pub short : length prototype ≤ line_limit
  pub no-remark : is_remark prototype ≡ false
  pub lines : AllReady body code
  pub locals : List Set
  pub locals_are : kinds ≡ map (λ k. number_of (symbol k)) locals
  pub few : length kinds ≤ 64
  pub room : at + length (parts_put prototype locals own global shared body) ≤ length out

-- the same by whole tables, of which the first rows are meant
abbrev pub tables_put : Bytes → List Set → Counts → Bytes → Bytes → Bytes → Bytes → Bytes
tables_put prototype locals rows own global shared body =
    parts_put prototype locals (take (rows.own * 8) own) (take (rows.global * 8) global) (take (rows.shared * 8) shared) body

pub record Tabled (prototype body : Bytes) (parameters : ℕ) (rows : Counts) (own global shared kinds code out : Bytes) (at : ℕ) : Type 0 where
  pub sizes : Sizes own global shared kinds
  pub order : parameters ≤ rows.own
  pub few-own : rows.own ≤ 64
  pub few-global : rows.global ≤ 32
  pub few-shared : rows.shared ≤ 32
  pub parts : Parts prototype body (take (rows.own - parameters) (drop parameters kinds)) (take (rows.own * 8) own) (take (rows.global * 8) global) (take (rows.shared * 8) shared) code out at

pub record Writable (globals : List (Bytes × Set)) (m : Macro) (rows : ℕ) (own global shared kinds code out : Bytes) (at : ℕ) : Type 0 where
  pub member : Member globals m
  pub holds : Holds globals rows shared kinds
  pub lent : Lent own global shared kinds code
  pub room : at + length (macro_put globals m) ≤ length out
