-- The deck's coding: a byte for each lexeme, counts in two bytes.
use Rattle.std.specs.Prelude.{ℕ, ◌+◌, ◌-◌, Bool, true, false, List, [], ◌∷◌, ◌++◌, eqb, ltb, length}
use Rattle.std.proofs.Math.Option.{Option, none, some}
use Rattle.text.specs.Bytes.{Bytes}
use Rattle.rules.specs.Choice.{choose}
use Rattle.rules.specs.Lexemes.{Lex, byte as char, mark, ref, lone}
use Rattle.rules.specs.Statement.{Set, set_a, set_b, set_c, Line, Does, passes, ends, exits, text, models, sets, branches_if, branches, counts, doing}
use Rattle.deck.specs.Coding.{Read, after, Coder, get_byte, byte, two, four, pair, via, list_of}
use Rattle.deck.specs.Slots.{Slot, own, shared, list, index, section, nowhere, DeckMacro, Deck}

-- a lexeme is one byte: text below 127 as itself, 127 an attribute mark, 128 + s a level's own slot s, 192 + g global g, 224 to 226 &SYSLIST, &SYSNDX, &SYSECT
abbrev pub mark_code : ℕ
mark_code = 127

abbrev pub own_code : ℕ
own_code = 128

abbrev pub shared_code : ℕ
shared_code = 192

abbrev pub list_code : ℕ
list_code = 224

abbrev pub index_code : ℕ
index_code = 225

abbrev pub section_code : ℕ
section_code = 226

-- what a deck never holds is written as bytes that no lexeme has: a variable symbol that is not known, an ampersand that starts none
abbrev pub unknown_code : ℕ
unknown_code = 254

abbrev pub no_code : ℕ
no_code = 255

unfoldable pub slot_code : Slot → ℕ
slot_code (own p) = own_code + p
slot_code (shared g) = shared_code + g
slot_code list = list_code
slot_code index = index_code
slot_code section = section_code
slot_code nowhere = unknown_code

unfoldable pub lex_code : Lex Slot → ℕ
lex_code (char c) = c
lex_code mark = mark_code
lex_code (ref s) = slot_code s
lex_code lone = no_code

unfoldable pub lex_of : ℕ → Option (Lex Slot)
lex_of b =
    choose (ltb b mark_code) (some (char b))
    (choose (eqb b mark_code) (some mark)
    (choose (ltb b shared_code) (some (ref (own (b - own_code))))
    (choose (ltb b list_code) (some (ref (shared (b - shared_code))))
    (choose (eqb b list_code) (some (ref list)) (choose (eqb b index_code) (some (ref index)) (choose (eqb b section_code) (some (ref section)) none))))))

unfoldable pub lexeme : Coder (Lex Slot)
lexeme = via byte lex_code lex_of

unfoldable pub field : Coder (List (Lex Slot))
field = list_of lexeme

unfoldable pub string : Coder Bytes
string = list_of byte

unfoldable pub set_code : Set → ℕ
set_code set_a = 0
set_code set_b = 1
set_code set_c = 2

unfoldable pub set_of : ℕ → Option Set
set_of n = choose (eqb n 0) (some set_a) (choose (eqb n 1) (some set_b) (choose (eqb n 2) (some set_c) none))

unfoldable pub kind : Coder Set
kind = via byte set_code set_of

unfoldable pub flag_code : Bool → ℕ
flag_code b = choose b 1 0

unfoldable pub flag_of : ℕ → Option Bool
flag_of n = choose (eqb n 0) (some false) (choose (eqb n 1) (some true) none)

unfoldable pub flag : Coder Bool
flag = via byte flag_code flag_of

-- a line: what it does, and the fields that this has
abbrev pub passes_code : ℕ
passes_code = 0

abbrev pub ends_code : ℕ
ends_code = 1

abbrev pub exits_code : ℕ
exits_code = 2

abbrev pub text_code : ℕ
text_code = 3

abbrev pub models_code : ℕ
models_code = 4

abbrev pub branches_if_code : ℕ
branches_if_code = 5

abbrev pub branches_code : ℕ
branches_code = 6

abbrev pub counts_code : ℕ
counts_code = 7

-- and 8, 9, 10 for SETA, SETB, SETC
abbrev pub sets_code : ℕ
sets_code = 8

unfoldable pub put_line_by : Line Slot ℕ → Does ℕ → Bytes
put_line_by l passes = passes_code ∷ []
put_line_by l ends = ends_code ∷ []
put_line_by l exits = exits_code ∷ []
put_line_by l (text s) = text_code ∷ string.put s
put_line_by l models = models_code ∷ (field.put l.name ++ (field.put l.operation ++ field.put l.operand))
put_line_by l (sets k) = (sets_code + set_code k) ∷ (field.put l.name ++ field.put l.operand)
put_line_by l (branches_if t) = branches_if_code ∷ (two.put t ++ field.put l.operand)
put_line_by l (branches t) = branches_code ∷ two.put t
put_line_by l counts = counts_code ∷ field.put l.operand

unfoldable pub sets_line : Set → Bytes → Read (Line Slot ℕ)
sets_line k s = after (field.get s) λ n t. after (field.get t) λ a u. some (record { does = sets k; name = n; operation = []; operand = a }, u)

unfoldable pub get_sets : Option Set → Bytes → Read (Line Slot ℕ)
get_sets none s = none
get_sets (some k) s = sets_line k s

unfoldable pub get_models : Bytes → Read (Line Slot ℕ)
get_models s =
    after (field.get s) λ n t. after (field.get t) λ o u. after (field.get u) λ a v. some (record { does = models; name = n; operation = o; operand = a }, v)

unfoldable pub get_text : Bytes → Read (Line Slot ℕ)
get_text s = after (string.get s) λ l t. some (doing (text l), t)

unfoldable pub get_branch_if : Bytes → Read (Line Slot ℕ)
get_branch_if s =
    after (two.get s) λ n t. after (field.get t) λ a u. some (record { does = branches_if n; name = []; operation = []; operand = a }, u)

unfoldable pub get_branch : Bytes → Read (Line Slot ℕ)
get_branch s = after (two.get s) λ n t. some (doing (branches n), t)

unfoldable pub get_counts : Bytes → Read (Line Slot ℕ)
get_counts s = after (field.get s) λ a t. some (record { does = counts; name = []; operation = []; operand = a }, t)

unfoldable pub get_line_by : ℕ → Bytes → Read (Line Slot ℕ)
get_line_by k s =
    choose (eqb k passes_code) (some (doing passes, s))
    (choose (eqb k ends_code) (some (doing ends, s))
    (choose (eqb k exits_code) (some (doing exits, s))
    (choose (eqb k text_code) (get_text s)
    (choose (eqb k models_code) (get_models s)
    (choose (eqb k branches_if_code) (get_branch_if s)
    (choose (eqb k branches_code) (get_branch s) (choose (eqb k counts_code) (get_counts s) (get_sets (set_of (k - sets_code)) s))))))))

unfoldable pub line : Coder (Line Slot ℕ)
line = record { put = λ l. put_line_by l l.does; get = λ s. after (get_byte s) get_line_by }

-- a macro: name, whether it has a name parameter, positionals, keywords with defaults, the locals' kinds, lines
abbrev pub Parts : Type 0
Parts = Bytes × (Bool × (ℕ × (List (Bytes × Bytes) × (List Set × List (Line Slot ℕ)))))

unfoldable pub parts_of : DeckMacro → Parts
parts_of m = (m.title, (m.named, (m.positionals, (m.keywords, (m.locals, m.lines)))))

unfoldable pub macro_of : Parts → Option DeckMacro
macro_of p = some (record {
  title = p.0;
  named = p.1.0;
  positionals = p.1.1.0;
  keywords = p.1.1.1.0;
  locals = p.1.1.1.1.0;
  lines = p.1.1.1.1.1;
})

unfoldable pub macro : Coder DeckMacro
macro = via (pair string (pair flag (pair two (pair (list_of (pair string string)) (pair (list_of kind) (list_of line)))))) parts_of macro_of

unfoldable pub deck_from : List Set × List DeckMacro → Option Deck
deck_from p = some (record { globals = p.0; macros = p.1 })

unfoldable pub contents : Coder Deck
contents = via (pair (list_of kind) (list_of macro)) (λ d. (d.globals, d.macros)) deck_from

-- 01: "Deck: four bytes, big-endian, the count of bytes after them; one version byte 1; the rest is the team's coding"
abbrev pub version_byte : ℕ
version_byte = 1

unfoldable pub encoded : Deck → Bytes
encoded d = let s = version_byte ∷ contents.put d in four.put (length s) ++ s

-- all of the bytes are read, and nothing is left over
unfoldable pub whole_deck : Read Deck → Option Deck
whole_deck none = none
whole_deck (some r) = elim r.1 [ [] ↦ some r.0 | b ∷ s ↦ none ]

unfoldable pub versioned : Bytes → Option Deck
versioned [] = none
versioned (v ∷ s) = choose (eqb v version_byte) (whole_deck (contents.get s)) none

-- "A slice whose length is not four more than the count fails it."
unfoldable pub counted : Read ℕ → Option Deck
counted none = none
counted (some r) = choose (eqb (length r.1) r.0) (versioned r.1) none

unfoldable pub decoded : Bytes → Option Deck
decoded s = counted (four.get s)
