-- The meaning of a library's own lines: a body line is read from its bytes when it is reached, a branch searches the lines for its target, values are looked up by
-- name. No deck, coding, slot or translation occurs here.
use Rattle.std.specs.Prelude.{ℕ, not, List, [], ◌++◌, map, ltb, length, get_or, pos}
use Rattle.text.specs.Bytes.{Bytes, bytes, same}
use Rattle.text.specs.Words.{place_among}
use Rattle.rules.specs.Choice.{choose}
use Rattle.rules.specs.Fields.{lines_of, is_empty}
use Rattle.rules.specs.Statement.{Set, set_a, Line, map_line, read}
use Rattle.rules.specs.Grammar.{Kind, parameter, symbol, syslist, sysndx, sysect, unknown}
use Rattle.rules.specs.Evaluate.{Value, number, string, Store, Cell, own_cell, shared_cell, system_cell}
use Rattle.rules.specs.Machine.{Header, Level, Machine, Outcome, outcome}
use Rattle.rules.specs.Library.{Macro, outer, macros_from, operation_of, Names, names_in, firsts, seconds, parameter_names, globals_of, line_named}

-- a level's own names in the order of declaration, and their kinds
unfoldable pub own_names : Names → List Bytes
own_names n = parameter_names n ++ firsts n.locals

unfoldable pub own_kinds : Names → List Kind
own_kinds n = map (λ p. parameter) (parameter_names n) ++ map symbol (seconds n.locals)

-- 01: "&SYSNDX is a level's own number. &SYSECT .. stays for that level."
unfoldable pub system_named : Level → Store → Bytes → Cell
system_named l st n =
    choose (same n (bytes "SYSLIST")) (system_cell syslist st (string []) l.list)
    (choose (same n (bytes "SYSNDX")) (system_cell sysndx st (number (pos l.number)) [])
    (choose (same n (bytes "SYSECT")) (system_cell sysect st (string l.sect) []) (system_cell unknown st (string []) [])))

-- what a name stands for in a macro with these names, of a library with these globals
unfoldable pub cell_named : Names → List (Bytes × Set) → Level → List Value → Bytes → Cell
cell_named names globals l shared n =
    let st : Store = record { own = l.own; shared = shared } in
    let own = place_among (own_names names) n in
    let global = place_among (firsts names.globals) n in
    choose (ltb own (length (own_names names))) (own_cell (get_or (own_kinds names) own unknown) st own)
    (choose (ltb global (length names.globals)) (shared_cell (symbol (get_or (seconds names.globals) global set_a)) st (place_among (firsts globals) n))
    (system_named l st n))

unfoldable pub header_of : Names → List Bytes → Header
header_of n body = record {
  named = not (is_empty n.name);
  positionals = length n.positionals;
  keywords = n.keywords;
  locals = seconds n.locals;
  lines = length body;
}

-- a macro with its names
pub record Reading : Type 0 where
  pub title : Bytes
  pub names : Names
  pub body : List Bytes

unfoldable pub reading : Macro → Reading
reading m = record { title = operation_of m.prototype; names = names_in m.prototype m.body; body = m.body }

unfoldable pub no_reading : Reading
no_reading = record { title = []; names = record { name = []; positionals = []; keywords = []; locals = []; globals = [] }; body = [] }

-- what body line `i` says at a level
unfoldable pub line_in : Reading → List (Bytes × Set) → ℕ → Level → List Value → Line Cell ℕ
line_in r globals i l shared = map_line (cell_named r.names globals l shared) (λ t. line_named t r.body) (read (get_or r.body i []))

unfoldable pub machine_of : List Reading → List (Bytes × Set) → Machine
machine_of rs globals = record {
  titles = map (λ r. r.title) rs;
  header = λ k. let r = get_or rs k no_reading in header_of r.names r.body;
  line = λ k i l shared. line_in (get_or rs k no_reading) globals i l shared;
  globals = seconds globals;
}

unfoldable pub machine_of_lines : Bytes → Machine
machine_of_lines library =
    let rs = map reading (macros_from outer (lines_of library)) in
    machine_of rs (globals_of [] (map (λ r. r.names) rs))

-- the meaning of a library's own lines: for a program and two buffers the answer (result, or refusal with its place), lines, steps, and every byte afterwards
unfoldable pub by_lines : Bytes → Bytes → Bytes → Bytes → Outcome
by_lines library program out work = outcome (machine_of_lines library) program out work
