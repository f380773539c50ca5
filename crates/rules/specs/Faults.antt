-- Document 01, "Refusal numbers and places", for translation: each number 1 to 5 is a test of its own over a line and its surroundings; the answer is the lowest
-- faulty line with the lowest number on it.
use Rattle.std.specs.Prelude.{ℕ, suc, ◌+◌, Bool, true, false, ◌&&◌, ◌||◌, not, List, [], ◌∷◌, ◌++◌, eqb, leb, ltb, length, take, drop, get_or}
use Rattle.std.proofs.Math.Option.{Option, none, some}
use Rattle.text.specs.Bytes.{Bytes, bytes, same}
use Rattle.text.specs.Words.{place_among, words}
use Rattle.rules.specs.Choice.{choose, every, any}
use Rattle.rules.specs.Limits.{macro_name_limit, library_limit, macro_limit, parameter_limit, local_limit, global_limit, nest_limit, bad_byte, out_of_place, bad_name, ill_formed, over_limit}
use Rattle.rules.specs.Lexemes.{Lex, is_plain, lexed, unlexed, refs_in, is_long, is_name, sequence_start, is_sequence, outside}
use Rattle.rules.specs.Fields.{lines_of, is_ill_written, starts_with, is_remark, Fields, fields_of, statement_fields, is_empty}
use Rattle.rules.specs.Statement.{Set, set_a, Statement, macro, mend, mexit, local, global, set, aif, ago, anop, actr, model, statement_of, condition_end, Line, map_line, read}
use Rattle.rules.specs.Grammar.{Kind, parameter, symbol, syslist, sysndx, sysect, unknown}
use Rattle.rules.specs.Form.{same_set, is_formed, any_nesting}
use Rattle.rules.specs.Calls.{pair_up, equals_at, has_equals}
use Rattle.rules.specs.Library.{Place, outer, at_prototype, in_body, operation_of, is_macro, is_mend, is_one_symbol, start_symbol, start_symbols, operand_parts, locals_on, globals_on, Names, names_in, firsts, seconds, parameter_names, with_globals, is_named}

-- What the lines before a line have brought: how many they are and how many of them are MACRO lines, the macros' names, the library's globals, and where the line stands.
pub record Around : Type 0 where
  pub lines : ℕ
  pub macros : ℕ
  pub titles : List Bytes
  pub globals : List (Bytes × Set)
  pub place : Place

unfoldable pub no_lines : Around
no_lines = record { lines = 0; macros = 0; titles = []; globals = []; place = outer }

unfoldable pub at_statement : Statement → Bool
at_statement macro = false
at_statement mend = true
at_statement mexit = true
at_statement (local k) = false
at_statement (global k) = false
at_statement (set k) = true
at_statement aif = true
at_statement ago = true
at_statement anop = true
at_statement actr = true
at_statement model = true

-- a line after which no declaration may stand, and no ACTR: one that is neither remark nor declaration
unfoldable pub ends_declarations : Bytes → Bool
ends_declarations l = not (is_remark l) && at_statement (statement_of (operation_of l))

-- 2: "line out of place, no operation in a definition". 01: "Then GBLA/B/C and LCLA/B/C lines, then at most one ACTR; remarks may stand between."
unfoldable pub is_misplaced : List Bytes → Bytes → Statement → Bool
is_misplaced before o macro = true
is_misplaced before o mend = false
is_misplaced before o mexit = false
is_misplaced before o (local k) = any ends_declarations before
is_misplaced before o (global k) = any ends_declarations before
is_misplaced before o (set k) = false
is_misplaced before o aif = false
is_misplaced before o ago = false
is_misplaced before o anop = false
is_misplaced before o actr = any ends_declarations before
is_misplaced before o model = is_empty o

unfoldable pub is_out_of_place : Place → Bytes → Bool
-- "Outside definitions only remarks and lines with no operation may stand."
is_out_of_place outer l = not (is_empty (operation_of l) || is_macro l)
is_out_of_place at_prototype l = is_empty (operation_of l)
is_out_of_place (in_body p before) l = not (is_remark l) && is_misplaced before (operation_of l) (statement_of (operation_of l))

-- 3: "macro name ill-formed or a language word; name or symbol too long, used twice or unknown; `&SYS..` declared"

unfoldable pub has_long_symbol : List (Lex Bytes) → Bool
has_long_symbol x = any is_long (refs_in x)

-- a name field that begins with `.`, a letter and seven or more letters or digits
unfoldable pub is_long_sequence : Bytes → Bool
is_long_sequence name = is_long (sequence_start name)

-- of the symbols that a line declares, one begins `&SYS`, stands there twice, or was declared before
unfoldable pub declares_wrongly : (Bytes → Bool) → List Bytes → Bool
declares_wrongly before [] = false
declares_wrongly before (n ∷ ns) = starts_with (bytes "SYS") n || (before n || (any (same n) ns || declares_wrongly before ns))

unfoldable pub is_macro_name : Bytes → Bool
is_macro_name o = is_name macro_name_limit o && eqb (place_among words o) (length words)

-- a part of a prototype's operand up to its `=`
unfoldable pub before_equals : List (Lex Bytes) → List (Lex Bytes)
before_equals part = take (equals_at part) part

unfoldable pub has_bad_prototype_name : List Bytes → Fields → Bool
has_bad_prototype_name titles f =
    not (is_macro_name f.operation) || (any (same f.operation) titles
    || (is_long_sequence f.name || (has_long_symbol (lexed false f.name)
    || (any (λ part. has_long_symbol (before_equals part)) (operand_parts f)
    || declares_wrongly (λ n. false) (start_symbol (lexed false f.name) ++ start_symbols (operand_parts f))))))

-- what a variable symbol is: 01's known symbols are the macro's parameters, the SET symbols that it declares on earlier lines, and the system symbols
unfoldable pub system_kind : Bytes → Kind
system_kind n = choose (same n (bytes "SYSLIST")) syslist (choose (same n (bytes "SYSNDX")) sysndx (choose (same n (bytes "SYSECT")) sysect unknown))

unfoldable pub set_names : Names → List (Bytes × Set)
set_names names = names.locals ++ names.globals

unfoldable pub kind_named : Names → Bytes → Kind
kind_named names n =
    let p = place_among (firsts (set_names names)) n in
    choose (any (same n) (parameter_names names)) parameter (choose (ltb p (length (set_names names))) (symbol (get_or (seconds (set_names names)) p set_a)) (system_kind n))

unfoldable pub is_unknown_kind : Kind → Bool
is_unknown_kind parameter = false
is_unknown_kind (symbol k) = false
is_unknown_kind syslist = false
is_unknown_kind sysndx = false
is_unknown_kind sysect = false
is_unknown_kind unknown = true

-- a symbol in the field is too long or unknown
unfoldable pub has_unknown : Names → List (Lex Bytes) → Bool
has_unknown names x = any (λ n. is_long n || is_unknown_kind (kind_named names n)) (refs_in x)

unfoldable pub is_declared : Names → Bytes → Bool
is_declared names n = any (same n) (parameter_names names ++ firsts (set_names names))

unfoldable pub has_other_kind : Set → List (Bytes × Set) → Bytes → Bool
has_other_kind k globals n = any (λ g. same g.0 n && not (same_set g.1 k)) globals

-- 01: "A sequence symbol is unknown, on the line that branches to it, if no body line up to the macro's MEND (or the library's end) is named by it."
unfoldable pub is_named_up_to_mend : Bytes → List Bytes → Bool
is_named_up_to_mend s [] = false
is_named_up_to_mend s (l ∷ ls) = is_named s l || (not (is_mend l) && is_named_up_to_mend s ls)

-- a target's symbol is too long, or names no line; `before` are the body's lines before the branching one, `from` that line and those after it
unfoldable pub is_bad_target : List Bytes → List Bytes → Bytes → Bool
is_bad_target before from target =
    let s = sequence_start target in
    not (is_empty s) && (is_long s || not (any (is_named s) before || is_named_up_to_mend s from))

-- the target behind AIF's condition, where its operand starts with one
unfoldable pub target_behind : List (Lex Bytes) → Bytes
target_behind x = choose (eqb (condition_end x) 0) [] (unlexed (drop (condition_end x) x))

unfoldable pub has_bad_body_name : List (Bytes × Set) → Names → List Bytes → List Bytes → Fields → Statement → Bool
-- "What follows MACRO, ANOP, MEXIT or MEND is remarks."
has_bad_body_name globals names before from f macro = false
has_bad_body_name globals names before from f mend = false
has_bad_body_name globals names before from f mexit = false
has_bad_body_name globals names before from f anop = false
has_bad_body_name globals names before from f (local k) =
    has_long_symbol (lexed true f.operand) || declares_wrongly (is_declared names) (start_symbols (operand_parts f))
-- "one name has one kind, and the later line that gives another is fault 3"
has_bad_body_name globals names before from f (global k) =
    has_long_symbol (lexed true f.operand) || declares_wrongly (λ n. is_declared names n || has_other_kind k globals n) (start_symbols (operand_parts f))
has_bad_body_name globals names before from f (set k) = has_unknown names (lexed true f.operand)
has_bad_body_name globals names before from f aif =
    let x = lexed true f.operand in has_unknown names x || is_bad_target before from (target_behind x)
has_bad_body_name globals names before from f ago = has_unknown names (lexed true f.operand) || is_bad_target before from f.operand
has_bad_body_name globals names before from f actr = has_unknown names (lexed true f.operand)
has_bad_body_name globals names before from f model = has_unknown names (lexed false f.operation) || has_unknown names (lexed true f.operand)

-- a sequence symbol names a line before this one too
unfoldable pub is_used_twice : List Bytes → Bytes → Bool
is_used_twice before name = is_sequence name && any (is_named (drop 1 name)) before

unfoldable pub has_bad_name : Around → Bytes → List Bytes → Place → Bool
has_bad_name a l ls outer = is_macro l && (is_long_sequence (fields_of l).name || has_long_symbol (lexed false (fields_of l).name))
has_bad_name a l ls at_prototype = has_bad_prototype_name a.titles (fields_of l)
has_bad_name a l ls (in_body p before) =
    let f = statement_fields l in
    let names = names_in p before in
    is_long_sequence f.name || (has_unknown names (lexed false f.name) || (is_used_twice before f.name
    || has_bad_body_name a.globals names before (l ∷ ls) f (statement_of f.operation)))

-- 4: "operand, expression, `&` run or name field ill-formed or of the wrong kind"

-- 01: "keywords `&K=default`, paired and `&` runs even as in an open call"
unfoldable pub is_default : List (Lex Bytes) → Bool
is_default x = every is_plain x && (pair_up outside x && not (has_equals x))

unfoldable pub is_good_part : List (Lex Bytes) → Bool
is_good_part x = is_one_symbol (before_equals x) && (not (has_equals x) || is_default (drop (suc (equals_at x)) x))

-- positionals first
unfoldable pub are_good_parts : Bool → List (List (Lex Bytes)) → Bool
are_good_parts keywords [] = true
are_good_parts keywords (x ∷ xs) = is_good_part x && ((has_equals x || not keywords) && are_good_parts (keywords || has_equals x) xs)

unfoldable pub is_good_prototype : Fields → Bool
is_good_prototype f = (is_empty f.name || is_one_symbol (lexed false f.name)) && are_good_parts false (operand_parts f)

-- "AIF, AGO, ANOP, MEXIT, MEND have a sequence symbol or an empty name."
unfoldable pub is_named_or_empty : Bytes → Bool
is_named_or_empty name = is_empty name || is_sequence name

-- "a body name starting with `.` must be one"
unfoldable pub is_model_name : Bytes → Bool
is_model_name name = not (starts_with (bytes ".") name) || is_sequence name

-- one or more variable symbols divided by commas, nothing else
unfoldable pub is_declaration : Fields → Bool
is_declaration f = is_empty f.name && (not (is_empty f.operand) && every is_one_symbol (operand_parts f))

-- the fields around what the grammar reads
unfoldable pub are_fields_good : Fields → Statement → Bool
are_fields_good f macro = is_empty f.name
are_fields_good f mend = is_named_or_empty f.name
are_fields_good f mexit = is_named_or_empty f.name
are_fields_good f (local k) = is_declaration f
are_fields_good f (global k) = is_declaration f
are_fields_good f (set k) = true
are_fields_good f aif = is_named_or_empty f.name && is_sequence (target_behind (lexed true f.operand))
are_fields_good f ago = is_named_or_empty f.name && is_sequence f.operand
are_fields_good f anop = is_named_or_empty f.name
are_fields_good f actr = is_empty f.name
are_fields_good f model = is_model_name f.name

-- the line with each symbol's kind
unfoldable pub kinds_of : Names → Bytes → Line Kind Bytes
kinds_of names l = map_line (kind_named names) (λ t. t) (read l)

unfoldable pub is_ill_formed : Bytes → Place → Bool
is_ill_formed l outer = is_macro l && not (is_empty (fields_of l).name)
is_ill_formed l at_prototype = not (is_good_prototype (fields_of l))
is_ill_formed l (in_body p before) =
    let f = statement_fields l in
    let x = kinds_of (names_in p before) l in
    not (is_remark l) && not (are_fields_good f (statement_of f.operation) && is_formed (any_nesting x) x)

-- 5: "a limit passed"
unfoldable pub is_past : Around → Bytes → Place → Bool
is_past a l outer = is_macro l && leb macro_limit a.macros
is_past a l at_prototype =
    let f = fields_of l in
    ltb parameter_limit (length (operand_parts f) + length (start_symbol (lexed false f.name)))
is_past a l (in_body p before) =
    not (is_formed nest_limit (kinds_of (names_in p before) l))
    || (not (is_empty (locals_on l)) && ltb local_limit (length (names_in p before).locals + length (locals_on l))
    || not (is_empty (globals_on l)) && ltb global_limit (length (with_globals a.globals (globals_on l))))

unfoldable pub is_over_limit : Around → Bytes → Bool
is_over_limit a l = leb library_limit a.lines || is_past a l a.place

-- the lowest number that the line has; `ls` are the lines after it
unfoldable pub fault_of : Around → Bytes → List Bytes → Option ℕ
fault_of a l ls =
    choose (is_ill_written l) (some bad_byte)
    (choose (is_out_of_place a.place l) (some out_of_place)
    (choose (has_bad_name a l ls a.place) (some bad_name)
    (choose (is_ill_formed l a.place) (some ill_formed) (choose (is_over_limit a l) (some over_limit) none))))

unfoldable pub place_after : Bytes → Place → Place
place_after l outer = choose (is_macro l) at_prototype outer
place_after l at_prototype = in_body l []
place_after l (in_body p before) = choose (is_mend l) outer (in_body p (before ++ (l ∷ [])))

unfoldable pub titles_after : Bytes → Place → List Bytes → List Bytes
titles_after l outer titles = titles
titles_after l at_prototype titles = titles ++ (operation_of l ∷ [])
titles_after l (in_body p before) titles = titles

unfoldable pub globals_after : Bytes → Place → List (Bytes × Set) → List (Bytes × Set)
globals_after l outer globals = globals
globals_after l at_prototype globals = globals
globals_after l (in_body p before) globals = with_globals globals (globals_on l)

unfoldable pub macros_after : Bytes → Place → ℕ → ℕ
macros_after l outer n = choose (is_macro l) (suc n) n
macros_after l at_prototype n = n
macros_after l (in_body p before) n = n

unfoldable pub around_after : Bytes → Around → Around
around_after l a = record {
  lines = suc a.lines;
  macros = macros_after l a.place a.macros;
  titles = titles_after l a.place a.titles;
  globals = globals_after l a.place a.globals;
  place = place_after l a.place;
}

-- what translation says of a library before any deck is made: accepted, or number and line
pub data Verdict : Type 0 where
  accepted : Verdict
  faulty : ℕ → ℕ → Verdict

-- "missing MEND: one past the last line"
unfoldable pub at_end : Around → Place → Verdict
at_end a outer = accepted
at_end a at_prototype = faulty out_of_place (suc a.lines)
at_end a (in_body p before) = faulty out_of_place (suc a.lines)

unfoldable pub verdict_from : Around → List Bytes → Verdict
verdict_from a [] = at_end a a.place
verdict_from a (l ∷ ls) = elim (fault_of a l ls) [ none ↦ verdict_from (around_after l a) ls | some e ↦ faulty e (suc a.lines) ]

-- 01: "Translation answers 1 to 5 for the lowest faulty line, lowest number on it"
unfoldable pub verdict : Bytes → Verdict
verdict library = verdict_from no_lines (lines_of library)
