-- A slot of an accepted library's deck has the kind of the name that it was, so its lines are well formed as the library's are.
use Prim.Native.Nat.{ℕ, ◌≤◌, ◌<◌}
use native.Mathlib.Omega.{arith}
use mathlib.Core.Path.{◌≡◌, refl, ap, sym, ◌∙◌, subst}
use mathlib.Core.Bool.{Bool, true, false, not}
use mathlib.Core.List.{List, [], ◌∷◌, ◌++◌, map}
use lib.Dec.{ltb}
use lib.ListN.{length, get_or, replicate, length-append, length-map}
use borrow.Author.Tests.{ltb-true}
use Rattle.text.specs.Bytes.{Bytes, bytes, same}
use Rattle.text.specs.Words.{place_among}
use Rattle.rules.specs.Choice.{choose, every}
use Rattle.rules.specs.Limits.{nest_limit}
use Rattle.rules.specs.Lexemes.{lexed}
use Rattle.rules.specs.Fields.{lines_of, fields_of, is_empty}
use Rattle.rules.specs.Statement.{Set, set_a, Line, map_line, read}
use Rattle.rules.specs.Grammar.{Kind, parameter, symbol, syslist, sysndx, sysect, unknown}
use Rattle.rules.specs.Evaluate.{Cell, own_cell, shared_cell}
use Rattle.rules.specs.Machine.{Level}
use Rattle.rules.specs.Form.{is_formed}
use Rattle.rules.specs.Library.{outer, macros_from, Names, names_in, firsts, seconds, parameter_names, line_named}
use Rattle.rules.specs.ByLines.{own_names, own_kinds, cell_named, Reading, reading, no_reading}
use Rattle.rules.specs.Faults.{system_kind, kind_named, kinds_of, accepted, verdict}
use Rattle.rules.proofs.Choices.{by, chosen, passed_over}
use Rattle.rules.proofs.Logic.{all_map, all-at}
use Rattle.rules.proofs.Symbols.{length-firsts, get_d-mapped, system-kind, cell-kind}
use Rattle.rules.proofs.Accepted.{formed-in-limits, Known, line-stands, readings}
use Rattle.rules.proofs.FormedLines.{form-alike, same-form}
use Rattle.rules.proofs.Walked.{Proper, each-proper, all_found}
use Rattle.deck.specs.Slots.{Slot, list, index, section, nowhere, DeckMacro, system_slot, resolved, resolved_line, deck_macro, deck_in, resolved_library, parameters, own_kinds_of, slot_kind, no_macro, no_line}
use Rattle.deck.proofs.Lists.{map-constant}
use Rattle.deck.proofs.Tests.{every-each}
use Rattle.deck.proofs.Macros.{globals_in, Each}
use Rattle.deck.proofs.Headers.{one_at_most}
use Rattle.deck.proofs.Lines.{known_of}

-- a global of a macro has the kind that its place among the library's globals has
abbrev pub OneKindIn : List (Bytes × Set) → Names → Type 0
OneKindIn globals names = (n : Bytes) → let p = place_among (firsts names.globals) n in
    p < length names.globals → get_or (map symbol (seconds globals)) (place_among (firsts globals) n) unknown ≡ symbol (get_or (seconds names.globals) p set_a)

abbrev pub OneKind : Bytes → Type 0
OneKind library = (k : ℕ) (n : Bytes) →
    let names = (get_or (readings library) k no_reading).names in
    let p = place_among (firsts names.globals) n in
    p < length names.globals → get_or (map symbol (seconds (globals_in library))) (place_among (firsts (globals_in library)) n) unknown ≡ symbol (get_or (seconds names.globals) p set_a)

-- ---- slots

name-counted : {A : Type 0} (s : List A) → length s ≤ 1 → choose (not (is_empty s)) 1 0 ≡ length s
unfolding choose is_empty
name-counted [] h = refl
name-counted (a ∷ s) h = omega (arith, h)

system-slot : (gs : List Set) (m : DeckMacro) (n : Bytes) → slot_kind gs m (system_slot n) ≡ system_kind n
unfolding system_slot system_kind slot_kind choose
system-slot gs m n = go (same n (bytes "SYSLIST")) (same n (bytes "SYSNDX")) (same n (bytes "SYSECT"))
  where
    go : (a b c : Bool) → slot_kind gs m (choose a list (choose b index (choose c section nowhere))) ≡ choose a syslist (choose b sysndx (choose c sysect unknown))
    go true b c = refl
    go false true c = refl
    go false false true = refl
    go false false false = refl

-- any level: a symbol's kind is the same on each
level : Level
level = record { macro = 0; line = 0; counter = 0; number = 0; sect = []; list = []; own = [] }

module _ (r : Reading) (globals : List (Bytes × Set)) (one : length r.names.name ≤ 1) where
  abbrev names : Names
  names = r.names

  parameters-are : parameters (deck_macro globals r) ≡ length (parameter_names names)
  unfolding parameters deck_macro parameter_names
  parameters-are =
      omega (
        arith,
        name-counted names.name one,
        length-append names.name (names.positionals ++ firsts names.keywords),
        length-append names.positionals (firsts names.keywords),
        length-firsts names.keywords,
      )

  kinds-are : own_kinds_of (deck_macro globals r) ≡ own_kinds names
  unfolding own_kinds_of own_kinds deck_macro
  kinds-are =
      ap (λ (k : List Kind). k ++ map symbol (seconds names.locals))
      (ap (λ (n : ℕ). replicate n parameter) parameters-are ∙ sym (map-constant parameter (parameter_names names)))

  module _ (agree : OneKindIn globals names) (n : Bytes) where
    abbrev p : ℕ
    p = place_among (own_names names) n

    abbrev g : ℕ
    g = place_among (firsts names.globals) n

    abbrev kind : Slot → Kind
    kind = slot_kind (seconds globals) (deck_macro globals r)

    abbrev cell : Kind
    cell = (cell_named names globals level [] n).kind

    own-slot : ltb p (length (own_names names)) ≡ true → kind (resolved names globals n) ≡ cell
    unfolding resolved slot_kind cell_named own_cell
    own-slot e = ap kind (chosen _ _ e) ∙ (ap (λ (ks : List Kind). get_or ks p unknown) kinds-are ∙ sym (ap (λ (c : Cell). c.kind) (chosen _ _ e)))

    shared-slot : ltb p (length (own_names names)) ≡ false → ltb g (length names.globals) ≡ true → kind (resolved names globals n) ≡ cell
    unfolding resolved slot_kind cell_named shared_cell
    shared-slot e f =
        ap kind (passed_over _ _ e ∙ chosen _ _ f)
        ∙ (agree n (ltb-true g (length names.globals) f) ∙ sym (ap (λ (c : Cell). c.kind) (passed_over _ _ e ∙ chosen _ _ f)))

    other-slot : ltb p (length (own_names names)) ≡ false → ltb g (length names.globals) ≡ false → kind (resolved names globals n) ≡ cell
    unfolding resolved cell_named
    other-slot e f =
        ap kind (passed_over _ _ e ∙ passed_over _ _ f)
        ∙ (system-slot (seconds globals) (deck_macro globals r) n
        ∙ (sym (system-kind level (record { own = level.own; shared = [] }) n) ∙ sym (ap (λ (c : Cell). c.kind) (passed_over _ _ e ∙ passed_over _ _ f))))

    slot-kind : kind (resolved names globals n) ≡ kind_named names n
    slot-kind =
        by (ltb p (length (own_names names))) own-slot (λ e. by (ltb g (length names.globals)) (shared-slot e) (other-slot e))
        ∙ cell-kind names globals level [] n

-- ---- lines

abbrev AllFormed : List Set → DeckMacro → Type 0
AllFormed gs m = every (λ l. is_formed nest_limit (map_line (slot_kind gs m) (λ t. t) l)) m.lines ≡ true

one_name : {r : Reading} → Known r → length r.names.name ≤ 1
unfolding names_in
one_name a = subst (λ (s : Names). length s.name ≤ 1) (sym a.names-are) (one_at_most (lexed false (fields_of a.prototype).name))

module _ (r : Reading) (globals : List (Bytes × Set)) (a : Known r) (agree : OneKindIn globals r.names) where
  abbrev m : DeckMacro
  m = deck_macro globals r

  abbrev formed : Line Slot ℕ → Bool
  formed l = is_formed nest_limit (map_line (slot_kind (seconds globals) m) (λ t. t) l)

  line-formed : (i : ℕ) → i < length r.body → formed (resolved_line r globals (get_or r.body i [])) ≡ true
  unfolding resolved_line kinds_of
  line-formed i h =
      form-alike (slot_kind (seconds globals) m) (resolved r.names globals) (slot-kind r globals (one_name a) agree) nest_limit (λ t. line_named t r.body) (read (get_or r.body i []))
      ∙ (same-form a i h ∙ formed-in-limits (line-stands a i h))

  all-formed : AllFormed (seconds globals) m
  unfolding deck_macro
  all-formed =
      every-each formed (map (resolved_line r globals) r.body) no_line
      (λ i h. let k : i < length r.body = omega (arith, h, length-map r.body (resolved_line r globals)) in
      ap formed (get_d-mapped (resolved_line r globals) r.body i [] no_line k) ∙ line-formed i k)

known-each : (library : Bytes) → verdict library ≡ accepted → (k : ℕ) → k < length (readings library) → Known (get_or (readings library) k no_reading)
known-each library e k h =
    let ms = macros_from outer (lines_of library) in
    all-at Known (map reading ms) no_reading k (all_map Proper Known reading known_of ms (each-proper (all_found library e))) h

pub lines-formed : (library : Bytes) → verdict library ≡ accepted → OneKind library
    → Each library (λ m. every (λ l. is_formed nest_limit (map_line (slot_kind (resolved_library library).globals m) (λ t. t) l)) m.lines ≡ true)
unfolding resolved_library deck_in
lines-formed library e agree k h =
    let rs = readings library in
    let gs = globals_in library in
    let lt : k < length rs = omega (arith, h, length-map rs (deck_macro gs)) in
    subst (AllFormed (seconds gs)) (sym (get_d-mapped (deck_macro gs) rs k no_reading no_macro lt)) (all-formed (get_or rs k no_reading) gs (known-each library e k lt) (agree k))
