-- Tables of names when a line of a body has declared its symbols: what they have room for, and what they hold then. Assumes nothing.
use Rattle.std.specs.Prelude.{ℕ, ◌+◌, ◌*◌, ◌≤◌, ◌≡◌, true, false, List, [], map, length, take, drop}
use Rattle.text.specs.Bytes.{Bytes}
use Rattle.rules.specs.Choice.{any}
use Rattle.rules.specs.Limits.{parameter_limit}
use Rattle.rules.specs.Lexemes.{lexed, is_long}
use Rattle.rules.specs.Fields.{fields_of}
use Rattle.rules.specs.Statement.{Set, global, statement_of}
use Rattle.rules.specs.Library.{operation_of, start_symbol, operand_parts, locals_on, globals_on, Names, names_in as names_of, firsts, with_globals}
use Rattle.rules.specs.ByLines.{own_names}
use Rattle.rules.specs.Faults.{has_long_symbol, declares_wrongly, before_equals, is_declared, has_other_kind, are_good_parts}
use Rattle.names.specs.Names.{names_in}
use Rattle.symbols.specs.Held.{Held}
use Rattle.symbols.specs.Declared.{add_locals, add_globals}
use Rattle.filling.specs.Added.{number}
use Rattle.collecting.specs.declared.Rows.{Rows as Counts}

-- what the tables are given: 128 rows each, and 64 kinds of own names before those of the globals
pub record Sizes (own global shared kinds : Bytes) : Type 0 where
  pub own-size : 1024 ≤ length own
  pub global-size : 1024 ≤ length global
  pub shared-size : 1024 ≤ length shared
  pub kinds-size : 192 ≤ length kinds

-- what a line declares fits behind the first rows
pub record Room (line : Bytes) (rows : Counts) (own global shared kinds : Bytes) : Type 0 where
  pub sizes : Sizes own global shared kinds
  pub line-length : length line ≤ 71
  pub few-own : rows.own + length (locals_on line) ≤ 64
  pub few-global : rows.global ≤ 32
  pub few-shared : rows.shared ≤ 32
  pub short-locals : any is_long (firsts (locals_on line)) ≡ false
  pub short-globals : any is_long (firsts (globals_on line)) ≡ false

-- the first rows hold these names and globals, and no more
pub record Declared (names : Names) (globals : List (Bytes × Set)) (r : Counts) (own₁ global₁ shared₁ kinds₁ : Bytes) : Type 0 where
  pub held : Held names globals (take (r.own * 8) own₁) (take (r.global * 8) global₁) (take (r.shared * 8) shared₁) kinds₁
  pub own : length (own_names names) ≡ r.own
  pub global : length names.globals ≡ r.global
  pub shared : length globals ≡ r.shared

-- whatever names and globals the first tables hold, the second hold them and those that the line declares, where it gives no name a second kind
abbrev pub Declares : Bytes → Counts → Bytes → Bytes → Bytes → Bytes → Counts → Bytes → Bytes → Bytes → Bytes → Type 0
Declares line rows own₀ global₀ shared₀ kinds₀ r own₁ global₁ shared₁ kinds₁ =
    (names : Names) (globals : List (Bytes × Set))
    → Held names globals (take (rows.own * 8) own₀) (take (rows.global * 8) global₀) (take (rows.shared * 8) shared₀) kinds₀
    → length (own_names names) ≡ rows.own → length names.globals ≡ rows.global → length globals ≡ rows.shared
    → length (with_globals globals (globals_on line)) ≤ 32
    → ((k : Set) → statement_of (operation_of line) ≡ global k → any (has_other_kind k globals) (firsts (globals_on line)) ≡ false)
    → declares_wrongly (is_declared names) (firsts (globals_on line)) ≡ false
    → Declared (add_globals (add_locals names (locals_on line)) (globals_on line)) (with_globals globals (globals_on line)) r own₁ global₁ shared₁ kinds₁

-- how many rows there are when a line has declared its symbols
abbrev pub Counted : Bytes → Counts → Counts → Type 0
Counted line rows r =
    (r.own ≡ rows.own + length (locals_on line)) × ((r.global ≡ rows.global + length (globals_on line)) × (r.shared ≤ rows.shared + length (globals_on line)))

-- ---- a prototype

-- what is known of a prototype without fault, and what its parameters are given
pub record Prototype (line own kinds : Bytes) : Type 0 where
  pub own-size : 1024 ≤ length own
  pub kinds-size : 192 ≤ length kinds
  pub line-length : length line ≤ 71
  pub short-parts : any (λ part. has_long_symbol (before_equals part)) (operand_parts (fields_of line)) ≡ false
  pub short-name : has_long_symbol (lexed false (fields_of line).name) ≡ false
  pub good-parts : are_good_parts false (operand_parts (fields_of line)) ≡ true
  pub few : length (operand_parts (fields_of line)) + length (start_symbol (lexed false (fields_of line).name)) ≤ parameter_limit

-- whatever globals of the library the other tables hold, the first `r` rows hold the names with which the macro starts
abbrev pub Starts : Bytes → Bytes → ℕ → Bytes → Bytes → Type 0
Starts line kinds₀ r own₁ kinds₁ =
    (globals : List (Bytes × Set)) (shared : Bytes) → names_in shared ≡ firsts globals → take (length globals) (drop 64 kinds₀) ≡ map number globals
    → length globals ≤ 32 → Held (names_of line []) globals (take (r * 8) own₁) [] shared kinds₁
