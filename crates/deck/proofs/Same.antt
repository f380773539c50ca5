-- Demand 3: expanding through the deck of a library is expanding by the library's own lines.
use Prim.Native.Nat.{ℕ, suc, ◌<◌}
use mathlib.Core.Path.{◌≡◌, refl, ap, sym, ◌∙◌}
use mathlib.Core.Bool.{Bool, true, false, not}
use mathlib.Core.List.{List, [], ◌∷◌, ◌++◌, map}
use mathlib.Core.Option.{none, some}
use lib.Dec.{ltb}
use lib.ListN.{length, length-append, length-map, get_or, get_or-map, replicate}
use borrow.Author.Tests.{ltb-true}
use Rattle.text.specs.Bytes.{Bytes, bytes, same}
use Rattle.text.specs.Words.{words, place_among, word_number}
use Rattle.rules.specs.Choice.{choose, passed, run, every}
use Rattle.rules.specs.Limits.{workspace_size, short_workspace}
use Rattle.rules.specs.Lexemes.{Lex, byte, mark, ref, lone, marked, symbols, lexed, is_sequence}
use Rattle.rules.specs.Fields.{lines_of, starts_with, is_copied_remark, is_dropped_remark, operand_end, fields_of, is_empty}
use Rattle.rules.specs.Statement.{Set, set_a, Line, map_line, map_lex, Does, passes, ends, exits, text, models, sets, branches_if, branches, counts, map_does, statements, statement_of, is_copied, doing, says, read}
use Rattle.rules.specs.Grammar.{parameter, symbol, unknown}
use Rattle.rules.specs.Evaluate.{Value, Store, own_cell, shared_cell}
use Rattle.rules.specs.Machine.{Level, Answer, at_once, expansion, outcome, output_after, workspace_after}
use Rattle.rules.specs.Library.{Macro, outer, macros_from, Names, names_in, start_symbol, firsts, seconds, parameter_names, globals_of, line_named}
use Rattle.rules.specs.ByLines.{own_names, own_kinds, system_named, cell_named, header_of, Reading, reading, no_reading, line_in, machine_of, machine_of_lines, by_lines}
use Rattle.rules.proofs.Choices.{chosen}
use Rattle.deck.specs.Slots.{Deck, system_slot, resolved, resolved_line, deck_macro, deck_in, resolved_library, parameters, own_kinds_of, slot_kind, held, no_macro, no_line, deck_header, machine_of_deck}
use Rattle.deck.specs.Coders.{decoded}
use Rattle.deck.specs.Good.{is_good, if_good, good_deck}
use Rattle.deck.specs.ByDeck.{deck_answer, deck_expansion, by_deck}
use Rattle.rules.proofs.Logic.{All}
use Rattle.deck.proofs.Lists.{all_get_d, map-map, map-constant}

-- a function of a choice, where each branch is known
into-choice : {A B : Type 0} (f : A → B) (b : Bool) {x y : A} {u v : B} → (b ≡ true → f x ≡ u) → (b ≡ false → f y ≡ v) → f (choose b x y) ≡ choose b u v
unfolding choose
into-choice f true t e = t refl
into-choice f false t e = e refl

-- one mapping of a line after another
map_lex-map_lex : {R S T : Type 0} (f : R → S) (g : S → T) {h : R → T} → ((r : R) → g (f r) ≡ h r) → (x : Lex R) → map_lex g (map_lex f x) ≡ map_lex h x
unfolding map_lex
map_lex-map_lex f g e (byte c) = refl
map_lex-map_lex f g e mark = refl
map_lex-map_lex f g e (ref r) = ap ref (e r)
map_lex-map_lex f g e lone = refl

map_does-same : {L M : Type 0} (h : L → M) (d : Does L) → map_does (λ t. t) (map_does h d) ≡ map_does h d
unfolding map_does
map_does-same h passes = refl
map_does-same h ends = refl
map_does-same h exits = refl
map_does-same h (text s) = refl
map_does-same h models = refl
map_does-same h (sets k) = refl
map_does-same h (branches_if t) = refl
map_does-same h (branches t) = refl
map_does-same h counts = refl

pub map_line-map_line : {R S T L M : Type 0} (f : R → S) (g : S → T) {k : R → T} (h : L → M) → ((r : R) → g (f r) ≡ k r)
    → (l : Line R L) → map_line g (λ t. t) (map_line f h l) ≡ map_line k h l
unfolding map_line
map_line-map_line f g h e l = λ i. record {
  does = map_does-same h l.does i;
  name = map-map (map_lex f) (map_lex g) (map_lex-map_lex f g e) l.name i;
  operation = map-map (map_lex f) (map_lex g) (map_lex-map_lex f g e) l.operation i;
  operand = map-map (map_lex f) (map_lex g) (map_lex-map_lex f g e) l.operand i;
}

-- a macro has one name parameter or none
abbrev IsNamedOnce : Reading → Type 0
IsNamedOnce r = choose (not (is_empty r.names.name)) 1 0 ≡ length r.names.name

named-once : (x : List (Lex Bytes)) → choose (not (is_empty (start_symbol x))) 1 0 ≡ length (start_symbol x)
unfolding start_symbol is_empty choose
named-once [] = refl
named-once (byte c ∷ x) = refl
named-once (mark ∷ x) = refl
named-once (ref n ∷ x) = refl
named-once (lone ∷ x) = refl

all-named-once : (ms : List Macro) → All IsNamedOnce (map reading ms)
unfolding reading names_in
all-named-once [] = tt
all-named-once (m ∷ ms) = (named-once _, all-named-once ms)

length-firsts : {X : Type 0} (ks : List (Bytes × X)) → length (firsts ks) ≡ length ks
unfolding firsts
length-firsts [] = refl
length-firsts (k ∷ ks) = ap suc (length-firsts ks)

-- so a macro's own symbols have the same kinds in the deck
parameters-same : (r : Reading) (gs : List (Bytes × Set)) → IsNamedOnce r → parameters (deck_macro gs r) ≡ length (parameter_names r.names)
unfolding parameters deck_macro parameter_names
parameters-same r gs h = rw (h, length-append, length-append, length-firsts)

own-kinds-same : (r : Reading) (gs : List (Bytes × Set)) → IsNamedOnce r → own_kinds_of (deck_macro gs r) ≡ own_kinds r.names
unfolding own_kinds_of own_kinds deck_macro
own-kinds-same r gs h =
    ap (λ n. replicate n parameter ++ map symbol (seconds r.names.locals)) (parameters-same r gs h)
    ∙ ap (λ ks. ks ++ map symbol (seconds r.names.locals)) (sym (map-constant parameter (parameter_names r.names)))

-- a library's macros with their names, and its globals
abbrev pub readings_of : Bytes → List Reading
readings_of library = map reading (macros_from outer (lines_of library))

abbrev pub globals_in : Bytes → List (Bytes × Set)
globals_in library = globals_of [] (map (λ r. r.names) (readings_of library))

-- the globals that a macro with these names declares have the kinds that the library gives them
abbrev IsOneKind : Names → List (Bytes × Set) → Type 0
IsOneKind names gs = (n : Bytes) → let p = place_among (firsts names.globals) n in
    p < length names.globals → get_or (map symbol (seconds gs)) (place_among (firsts gs) n) unknown ≡ symbol (get_or (seconds names.globals) p set_a)

-- a global that a macro declares has the kind that the library gives it
abbrev pub OneKind : List Reading → List (Bytes × Set) → Type 0
OneKind rs globals =
    (k : ℕ) (n : Bytes) → let names = (get_or rs k no_reading).names in let p = place_among (firsts names.globals) n in
    p < length names.globals → get_or (map symbol (seconds globals)) (place_among (firsts globals) n) unknown ≡ symbol (get_or (seconds names.globals) p set_a)

-- what a slot holds is what the name stands for
module _ (r : Reading) (gs : List (Bytes × Set)) (l : Level) (vs : List Value) where
  system-same : (n : Bytes) → held (seconds gs) (deck_macro gs r) l vs (system_slot n) ≡ system_named l (record { own = l.own; shared = vs }) n
  unfolding system_slot system_named held
  system-same n =
      let f = held (seconds gs) (deck_macro gs r) l vs in
      into-choice f (same n (bytes "SYSLIST")) (λ t. refl)
      (λ e. into-choice f (same n (bytes "SYSNDX")) (λ t. refl) (λ e. into-choice f (same n (bytes "SYSECT")) (λ t. refl) (λ e. refl)))

  held-is-meant : IsNamedOnce r → IsOneKind r.names gs → (n : Bytes) → held (seconds gs) (deck_macro gs r) l vs (resolved r.names gs n) ≡ cell_named r.names gs l vs n
  unfolding resolved cell_named held slot_kind
  held-is-meant h k n =
      let f = held (seconds gs) (deck_macro gs r) l vs in
      let st : Store = record { own = l.own; shared = vs } in
      let p = place_among (own_names r.names) n in
      let g = place_among (firsts r.names.globals) n in
      into-choice f (ltb p (length (own_names r.names))) (λ t. ap (λ ks. own_cell (get_or ks p unknown) st p) (own-kinds-same r gs h))
      (λ e. into-choice f (ltb g (length r.names.globals))
      (λ t. ap (λ c. shared_cell c st (place_among (firsts gs) n)) (k n (ltb-true g (length r.names.globals) t)))
      (λ e. system-same n))

-- an empty line has no symbol, so every deck has the same one behind a body's last line
empty-line : read [] ≡ doing (text [])
unfolding read is_copied_remark is_dropped_remark starts_with fields_of run statement_of statements word_number words says is_copied every lexed symbols marked operand_end passed is_sequence choose doing
empty-line = refl

-- the two machines, part by part
module _ (gs : List (Bytes × Set)) where
  macro-at : (rs : List Reading) (k : ℕ) → get_or (map (deck_macro gs) rs) k no_macro ≡ deck_macro gs (get_or rs k no_reading)
  unfolding deck_macro no_macro no_reading is_empty seconds
  macro-at rs k = get_or-map (deck_macro gs) rs k no_reading

  header-same : (r : Reading) → deck_header (deck_macro gs r) ≡ header_of r.names r.body
  unfolding deck_header deck_macro header_of
  header-same r = λ i. record {
    named = not (is_empty r.names.name);
    positionals = length r.names.positionals;
    keywords = r.names.keywords;
    locals = seconds r.names.locals;
    lines = length-map r.body (resolved_line r gs) i;
  }

  no-line : (r : Reading) → no_line ≡ resolved_line r gs []
  unfolding no_line resolved_line map_line map_does doing
  no-line r = rw empty-line

  line_at : (r : Reading) (j : ℕ) → get_or (deck_macro gs r).lines j no_line ≡ resolved_line r gs (get_or r.body j [])
  unfolding deck_macro
  line_at r j = ap (get_or (map (resolved_line r gs) r.body) j) (no-line r) ∙ get_or-map (resolved_line r gs) r.body j []

  line_same : (r : Reading) → IsNamedOnce r → IsOneKind r.names gs → (j : ℕ) (l : Level) (vs : List Value)
      → map_line (held (seconds gs) (deck_macro gs r) l vs) (λ t. t) (get_or (deck_macro gs r).lines j no_line) ≡ line_in r gs j l vs
  unfolding line_in resolved_line
  line_same r h k j l vs =
      ap (map_line (held (seconds gs) (deck_macro gs r) l vs) (λ t. t)) (line_at r j)
      ∙ map_line-map_line (resolved r.names gs) (held (seconds gs) (deck_macro gs r) l vs) (λ t. line_named t r.body) (held-is-meant r gs l vs h k) (read (get_or r.body j []))

  line_of : (rs : List Reading) → All IsNamedOnce rs → OneKind rs gs → (k j : ℕ) (l : Level) (vs : List Value)
      → (let m = get_or (map (deck_macro gs) rs) k no_macro in map_line (held (seconds gs) m l vs) (λ t. t) (get_or m.lines j no_line))
      ≡ line_in (get_or rs k no_reading) gs j l vs
  unfolding no_reading is_empty choose
  line_of rs h o k j l vs =
      ap (λ m. map_line (held (seconds gs) m l vs) (λ t. t) (get_or m.lines j no_line)) (macro-at rs k)
      ∙ line_same (get_or rs k no_reading) (all_get_d IsNamedOnce rs k no_reading h refl) (o k) j l vs

  header_at : (rs : List Reading) (k : ℕ) → deck_header (get_or (map (deck_macro gs) rs) k no_macro) ≡ (let r = get_or rs k no_reading in header_of r.names r.body)
  header_at rs k = ap deck_header (macro-at rs k) ∙ header-same (get_or rs k no_reading)

machine-of-readings : (rs : List Reading) (gs : List (Bytes × Set)) → All IsNamedOnce rs → OneKind rs gs → machine_of_deck (deck_in rs gs) ≡ machine_of rs gs
unfolding machine_of_deck machine_of deck_in deck_macro
machine-of-readings rs gs h o = λ i. record {
  titles = map-map (deck_macro gs) (λ m. m.title) (λ r. refl) rs i;
  header = λ k. header_at gs rs k i;
  line = λ k j l vs. line_of gs rs h o k j l vs i;
  globals = seconds gs;
}

-- a deck is a machine that no expansion can tell from the library's lines
pub same-machine : (library : Bytes) → OneKind (readings_of library) (globals_in library) → machine_of_deck (resolved_library library) ≡ machine_of_lines library
unfolding resolved_library machine_of_lines
same-machine library h = machine-of-readings (readings_of library) (globals_in library) (all-named-once (macros_from outer (lines_of library))) h

-- a test that is made twice
tested-twice : {A : Type 0} (b : Bool) (x y : A) → choose b x (choose b x y) ≡ choose b x y
unfolding choose
tested-twice true x y = refl
tested-twice false x y = refl

-- a deck in good form is expanded
good-is-read : (d : Bytes) {e : Deck} → decoded d ≡ some e → is_good e ≡ true → good_deck d ≡ some e
unfolding good_deck if_good
good-is-read d {e} h g = ap if_good h ∙ chosen (some e) none g

same_answer : (library d : Bytes) → decoded d ≡ some (resolved_library library) → is_good (resolved_library library) ≡ true
    → OneKind (readings_of library) (globals_in library)
    → (program : Bytes) (room work : ℕ) → deck_expansion d program room work ≡ expansion (machine_of_lines library) program room work
unfolding deck_expansion deck_answer expansion
same_answer library d h g o program room work =
    ap (λ e. choose (ltb work workspace_size) (at_once short_workspace) (deck_answer e program room work)) (good-is-read d h g)
    ∙ ap (λ m. choose (ltb work workspace_size) (at_once short_workspace) (expansion m program room work)) (same-machine library o)
    ∙ tested-twice (ltb work workspace_size) (at_once short_workspace) _

-- the answer, its place and counts, and every byte of both buffers
pub same-expansion : (library d : Bytes) → decoded d ≡ some (resolved_library library) → is_good (resolved_library library) ≡ true
    → OneKind (readings_of library) (globals_in library)
    → (program out work : Bytes) → by_deck d program out work ≡ by_lines library program out work
unfolding by_deck by_lines outcome
same-expansion library d h g o program out work =
    ap (λ (a : Answer). record { answer = a; output = output_after a out; workspace = workspace_after work }) (same_answer library d h g o program (length out) (length work))
