-- The test of good form: which decks are expanded. A translated deck meets it (`demands`); of every other that meets it the meaning is ByDeck.antt.
use Rattle.std.specs.Prelude.{ℕ, suc, ◌+◌, Bool, true, false, ◌&&◌, ◌||◌, not, List, [], ◌∷◌, map, eqb, leb, ltb, length}
use Rattle.std.proofs.Math.Option.{Option, none, some}
use Rattle.text.specs.Bytes.{Bytes, bytes, same}
use Rattle.text.specs.Characters.{in_set}
use Rattle.rules.specs.Choice.{choose, every, any}
use Rattle.rules.specs.Limits.{line_limit, name_limit, library_limit, macro_limit, parameter_limit, local_limit, global_limit, nest_limit}
use Rattle.rules.specs.Lexemes.{Lex, byte, mark, ref, lone, lexed, is_name}
use Rattle.rules.specs.Fields.{is_ill_written, is_copied_remark, is_dropped_remark, starts_with, Fields, fields_of, is_empty}
use Rattle.rules.specs.Statement.{Set, Line, map_line, Does, passes, ends, exits, text, models, sets, branches_if, branches, counts, is_copied}
use Rattle.rules.specs.Form.{is_formed}
use Rattle.rules.specs.Machine.{is_language_word}
use Rattle.rules.specs.Faults.{is_macro_name, is_default}
use Rattle.deck.specs.Slots.{Slot, DeckMacro, Deck, parameters, slot_kind}
use Rattle.deck.specs.Coders.{decoded}
use Rattle.deck.specs.AsRead.{is_read_line, is_read_default}

-- the names are told apart
unfoldable pub are_distinct : List Bytes → Bool
are_distinct [] = true
are_distinct (n ∷ ns) = not (any (same n) ns) && are_distinct ns

unfoldable pub are_distinct_keywords : List (Bytes × Bytes) → Bool
are_distinct_keywords [] = true
are_distinct_keywords (k ∷ ks) = not (any (λ j. same k.0 j.0) ks) && are_distinct_keywords ks

-- a keyword as a prototype has it: a symbol's name, and a default whose bytes are in the set, paired, `&` runs even, no bare `=`
unfoldable pub is_keyword : (Bytes × Bytes) → Bool
is_keyword k = is_name name_limit k.0 && (not (starts_with (bytes "SYS") k.0) && (not (is_ill_written k.1) && is_default (lexed true k.1)))

-- a lexeme of a line: text bytes in the set; slots are told by their kinds
unfoldable pub is_lexeme : Lex Slot → Bool
is_lexeme (byte c) = in_set c
is_lexeme mark = true
is_lexeme (ref s) = true
is_lexeme lone = false

unfoldable pub are_lexemes : List (Lex Slot) → Bool
are_lexemes x = leb (length x) line_limit && every is_lexeme x

-- a line used as it stands: a remark that is copied, or a statement without symbols, as a body may have it
unfoldable pub is_statement_text : Fields → Bool
is_statement_text f = not (is_empty f.operation) && (not (is_language_word f.operation) && (is_copied f && not (starts_with (bytes ".") f.name)))

unfoldable pub is_text : Bytes → Bool
is_text s = not (is_ill_written s) && (is_copied_remark s || (not (is_dropped_remark s) && is_statement_text (fields_of s)))

-- a branch target is a line of the macro behind its ACTR
unfoldable pub is_target : ℕ → ℕ → ℕ → Bool
is_target actr count t = ltb t count && leb actr t

-- what a line does is in order, in a macro whose ACTR stands before line `actr`, with `count` lines
unfoldable pub is_in_order : ℕ → ℕ → Does ℕ → Bool
is_in_order actr count passes = true
is_in_order actr count ends = true
is_in_order actr count exits = true
is_in_order actr count (text s) = is_text s
is_in_order actr count models = true
is_in_order actr count (sets k) = true
is_in_order actr count (branches_if t) = is_target actr count t
is_in_order actr count (branches t) = is_target actr count t
is_in_order actr count counts = true

unfoldable pub is_line : List Set → DeckMacro → ℕ → Line Slot ℕ → Bool
is_line globals m actr l =
    is_in_order actr (length m.lines) l.does
    && (are_lexemes l.name && (are_lexemes l.operation && (are_lexemes l.operand && is_formed nest_limit (map_line (slot_kind globals m) (λ t. t) l))))

-- MEND stands at a body's end and only there
unfoldable pub does_end : Does ℕ → Bool
does_end passes = false
does_end ends = true
does_end exits = false
does_end (text s) = false
does_end models = false
does_end (sets k) = false
does_end (branches_if t) = false
does_end (branches t) = false
does_end counts = false

unfoldable pub ends_once : List (Line Slot ℕ) → Bool
ends_once [] = false
ends_once (l ∷ []) = does_end l.does
ends_once (l ∷ (k ∷ ls)) = not (does_end l.does) && ends_once (k ∷ ls)

unfoldable pub does_count : Does ℕ → Bool
does_count passes = false
does_count ends = false
does_count exits = false
does_count (text s) = false
does_count models = false
does_count (sets k) = false
does_count (branches_if t) = false
does_count (branches t) = false
does_count counts = true

-- a line that may stand before ACTR: a declaration or a remark
unfoldable pub may_precede : Does ℕ → Bool
may_precede passes = true
may_precede ends = false
may_precede exits = false
may_precede (text s) = is_copied_remark s
may_precede models = false
may_precede (sets k) = false
may_precede (branches_if t) = false
may_precede (branches t) = false
may_precede counts = false

-- how many lines there are up to ACTR and with it; 0 where there is none
unfoldable pub actr_end : List (Line Slot ℕ) → ℕ
actr_end [] = 0
actr_end (l ∷ ls) = choose (does_count l.does) 1 (choose (eqb (actr_end ls) 0) 0 (suc (actr_end ls)))

-- ACTR stands once at most, with declarations and remarks before it
unfoldable pub counts_once : List (Line Slot ℕ) → Bool
counts_once [] = true
counts_once (l ∷ ls) = choose (does_count l.does) (not (any (λ k. does_count k.does) ls)) (counts_once ls && (may_precede l.does || not (any (λ k. does_count k.does) ls)))

unfoldable pub is_macro : List Set → DeckMacro → Bool
is_macro globals m =
    is_macro_name m.title
    && (leb (parameters m) parameter_limit && (leb (length m.locals) local_limit
    && (every is_keyword m.keywords && (are_distinct_keywords m.keywords
    && (ends_once m.lines && (counts_once m.lines && every (is_line globals m (actr_end m.lines)) m.lines))))))

unfoldable pub total_lines : List DeckMacro → ℕ
total_lines [] = 0
total_lines (m ∷ ms) = length m.lines + total_lines ms

-- everything is in range, well formed and in order
unfoldable pub is_sound : Deck → Bool
is_sound d =
    leb (length d.globals) global_limit && (leb (length d.macros) macro_limit && (leb (total_lines d.macros) library_limit
    && (are_distinct (map (λ m. m.title) d.macros) && every (is_macro d.globals) d.macros)))

-- the lines and defaults of a macro are as the reader gives them
unfoldable pub is_read_macro : DeckMacro → Bool
is_read_macro m = every is_read_line m.lines && every (λ k. is_read_default k.1) m.keywords

unfoldable pub is_good : Deck → Bool
is_good d = is_sound d && every is_read_macro d.macros

-- the deck that bytes in good form stand for; none where they are not
unfoldable pub if_good : Option Deck → Option Deck
if_good none = none
if_good (some d) = choose (is_good d) (some d) none

unfoldable pub good_deck : Bytes → Option Deck
good_deck s = if_good (decoded s)
