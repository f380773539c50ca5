-- A deck: a library whose names are places. Names stand in it only where they are read at expansion: macros and keywords.
use Rattle.std.specs.Prelude.{ℕ, ◌+◌, Bool, false, not, List, [], ◌++◌, map, ltb, length, get_or, replicate, pos}
use Rattle.text.specs.Bytes.{Bytes, bytes, same}
use Rattle.text.specs.Words.{place_among}
use Rattle.rules.specs.Choice.{choose}
use Rattle.rules.specs.Fields.{lines_of, is_empty}
use Rattle.rules.specs.Statement.{Set, Line, map_line, read}
use Rattle.rules.specs.Grammar.{Kind, parameter, symbol, syslist, sysndx, sysect, unknown}
use Rattle.rules.specs.Evaluate.{Value, number, string, Cell, own_cell, shared_cell, system_cell}
use Rattle.rules.specs.Machine.{Header, Level, Machine}
use Rattle.rules.specs.Library.{outer, macros_from, Names, firsts, seconds, globals_of, line_named}
use Rattle.rules.specs.ByLines.{own_names, Reading, reading}

-- What a variable symbol is in a deck: the place among a level's own values (parameters, then locals), the place among the globals, or a system symbol.
-- `nowhere` stands for a name that is none of these; no deck has it.
pub data Slot : Type 0 where
  own : ℕ → Slot
  shared : ℕ → Slot
  list : Slot
  index : Slot
  section : Slot
  nowhere : Slot

pub record DeckMacro : Type 0 where
  pub title : Bytes
  pub named : Bool
  pub positionals : ℕ
  pub keywords : List (Bytes × Bytes)
  pub locals : List Set
  pub lines : List (Line Slot ℕ)

pub record Deck : Type 0 where
  pub globals : List Set
  pub macros : List DeckMacro

-- from names to places
unfoldable pub system_slot : Bytes → Slot
system_slot n = choose (same n (bytes "SYSLIST")) list (choose (same n (bytes "SYSNDX")) index (choose (same n (bytes "SYSECT")) section nowhere))

unfoldable pub resolved : Names → List (Bytes × Set) → Bytes → Slot
resolved names globals n =
    let p = place_among (own_names names) n in
    choose (ltb p (length (own_names names))) (own p)
    (choose (ltb (place_among (firsts names.globals) n) (length names.globals)) (shared (place_among (firsts globals) n)) (system_slot n))

unfoldable pub resolved_line : Reading → List (Bytes × Set) → Bytes → Line Slot ℕ
resolved_line r globals l = map_line (resolved r.names globals) (λ t. line_named t r.body) (read l)

unfoldable pub deck_macro : List (Bytes × Set) → Reading → DeckMacro
deck_macro globals r = record {
  title = r.title;
  named = not (is_empty r.names.name);
  positionals = length r.names.positionals;
  keywords = r.names.keywords;
  locals = seconds r.names.locals;
  lines = map (resolved_line r globals) r.body;
}

unfoldable pub deck_in : List Reading → List (Bytes × Set) → Deck
deck_in rs globals = record { globals = seconds globals; macros = map (deck_macro globals) rs }

-- the deck of a library
unfoldable pub resolved_library : Bytes → Deck
resolved_library library =
    let rs = map reading (macros_from outer (lines_of library)) in
    deck_in rs (globals_of [] (map (λ r. r.names) rs))

-- from places to values
unfoldable pub parameters : DeckMacro → ℕ
parameters m = choose m.named 1 0 + (m.positionals + length m.keywords)

-- the kinds of a level's own symbols, and of a slot
unfoldable pub own_kinds_of : DeckMacro → List Kind
own_kinds_of m = replicate (parameters m) parameter ++ map symbol m.locals

unfoldable pub slot_kind : List Set → DeckMacro → Slot → Kind
slot_kind globals m (own p) = get_or (own_kinds_of m) p unknown
slot_kind globals m (shared g) = get_or (map symbol globals) g unknown
slot_kind globals m list = syslist
slot_kind globals m index = sysndx
slot_kind globals m section = sysect
slot_kind globals m nowhere = unknown

unfoldable pub held : List Set → DeckMacro → Level → List Value → Slot → Cell
held globals m l vs (own p) = own_cell (slot_kind globals m (own p)) (record { own = l.own; shared = vs }) p
held globals m l vs (shared g) = shared_cell (slot_kind globals m (shared g)) (record { own = l.own; shared = vs }) g
held globals m l vs list = system_cell syslist (record { own = l.own; shared = vs }) (string []) l.list
held globals m l vs index = system_cell sysndx (record { own = l.own; shared = vs }) (number (pos l.number)) []
held globals m l vs section = system_cell sysect (record { own = l.own; shared = vs }) (string l.sect) []
held globals m l vs nowhere = system_cell unknown (record { own = l.own; shared = vs }) (string []) []

unfoldable pub no_macro : DeckMacro
no_macro = record { title = []; named = false; positionals = 0; keywords = []; locals = []; lines = [] }

-- a line behind a macro's last one: nothing is ever asked of it
unfoldable pub no_line : Line Slot ℕ
no_line = map_line (λ n. nowhere) (λ t. 0) (read [])

unfoldable pub deck_header : DeckMacro → Header
deck_header m = record { named = m.named; positionals = m.positionals; keywords = m.keywords; locals = m.locals; lines = length m.lines }

-- the machine of a deck: a slot is looked up where by lines a name is
unfoldable pub machine_of_deck : Deck → Machine
machine_of_deck d = record {
  titles = map (λ m. m.title) d.macros;
  header = λ k. deck_header (get_or d.macros k no_macro);
  line = λ k i l vs. let m = get_or d.macros k no_macro in map_line (held d.globals m l vs) (λ t. t) (get_or m.lines i no_line);
  globals = d.globals;
}
