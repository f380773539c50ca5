-- The numbers 2 to 5 of a statement in a body, as tests over its fields, the codes of its fields and the tables of names. That these are the tests of `rules` is
-- proofs/Bodies.antt. Assumes nothing.
use Rattle.std.specs.Prelude.{ℕ, ◌+◌, ◌-◌, Bool, true, false, ◌&&◌, ◌||◌, not, List, [], ◌++◌, ltb, length, take}
use Rattle.text.specs.Bytes.{Bytes, same}
use Rattle.rules.specs.Choice.{choose, any, count}
use Rattle.rules.specs.Limits.{local_limit, global_limit, nest_limit, out_of_place, bad_name, ill_formed, over_limit}
use Rattle.rules.specs.Lexemes.{lexed, is_sequence}
use Rattle.rules.specs.Fields.{Fields, fields_of, is_empty}
use Rattle.rules.specs.Statement.{Statement, macro, mend, mexit, local, global, set, aif, ago, anop, actr, model, statement_of, Does, Line, says}
use Rattle.rules.specs.Grammar.{Kind}
use Rattle.rules.specs.Form.{is_formed_by}
use Rattle.rules.specs.Faults.{has_long_symbol, is_long_sequence, declares_wrongly, has_other_kind, is_bad_target, is_used_twice, is_named_or_empty, is_model_name, is_declaration}
use Rattle.names.specs.Names.{names_in}
use Rattle.coding.specs.Coded.{field_code}
use Rattle.grammar.specs.Tokens.{toks_at}
use Rattle.symbols.specs.Held.{unknown_in}
use Rattle.shapes.specs.declared.Shape.{Shape}
use Rattle.shapes.specs.Shapes.{part, ends_of, shape_of}
use Rattle.checking.specs.declared.Tables.{Tables as Lent}
use Rattle.declaring.specs.Declared.{symbols_in, is_taken, globals_in}

-- the lowest of the numbers 2 to 5 whose test holds; 0 where none does
unfoldable pub first_of : Bool → Bool → Bool → Bool → ℕ
first_of two three four five = choose two out_of_place (choose three bad_name (choose four ill_formed (choose five over_limit 0)))

-- 2: `empty` says that there is no operation, `ended` that a statement stands before which is no declaration
unfoldable pub misplaced : Statement → Bool → Bool → Bool
misplaced macro empty ended = true
misplaced mend empty ended = false
misplaced mexit empty ended = false
misplaced (local k) empty ended = ended
misplaced (global k) empty ended = ended
misplaced (set k) empty ended = false
misplaced aif empty ended = false
misplaced ago empty ended = false
misplaced anop empty ended = false
misplaced actr empty ended = ended
misplaced model empty ended = empty

-- the tables of names: a macro's own, those of its GBL statements, the library's globals, and the kinds of slots
pub record Tables : Type 0 where
  pub own : Bytes
  pub global : Bytes
  pub shared : Bytes
  pub kinds : Bytes

-- those that code has
abbrev pub tables_of : Lent → Tables
tables_of t = record { own = t.names.own.now; global = t.names.global.now; shared = t.names.shared.now; kinds = t.kinds.now }

-- 3, by statement: the codes of the operation and the operand, and the code of a target
unfoldable pub bad_symbols : Tables → List Bytes → List Bytes → Bytes → Bytes → Bytes → Bytes → Statement → Bool
bad_symbols t before from operand operation code target macro = false
bad_symbols t before from operand operation code target mend = false
bad_symbols t before from operand operation code target mexit = false
bad_symbols t before from operand operation code target (local k) =
    has_long_symbol (lexed true operand) || declares_wrongly (is_taken t.own t.global) (symbols_in operand)
bad_symbols t before from operand operation code target (global k) =
    has_long_symbol (lexed true operand)
    || (declares_wrongly (is_taken t.own t.global) (symbols_in operand) || any (has_other_kind k (globals_in t.shared t.kinds)) (symbols_in operand))
bad_symbols t before from operand operation code target (set k) = unknown_in code
bad_symbols t before from operand operation code target aif = unknown_in code || is_bad_target before from target
bad_symbols t before from operand operation code target ago = unknown_in code || is_bad_target before from target
bad_symbols t before from operand operation code target anop = false
bad_symbols t before from operand operation code target actr = unknown_in code
bad_symbols t before from operand operation code target model = unknown_in operation || unknown_in code

-- 4: the fields around what the grammar reads
unfoldable pub good_fields : Bytes → Bytes → Bytes → Statement → Bool
good_fields name operand target macro = is_empty name
good_fields name operand target mend = is_named_or_empty name
good_fields name operand target mexit = is_named_or_empty name
good_fields name operand target (local k) = is_declaration (record { name = name; gap = []; operation = []; gap₂ = []; operand = operand; remarks = [] })
good_fields name operand target (global k) = is_declaration (record { name = name; gap = []; operation = []; gap₂ = []; operand = operand; remarks = [] })
good_fields name operand target (set k) = true
good_fields name operand target aif = is_named_or_empty name && is_sequence target
good_fields name operand target ago = is_named_or_empty name && is_sequence target
good_fields name operand target anop = is_named_or_empty name
good_fields name operand target actr = is_empty name
good_fields name operand target model = is_model_name name

-- the fields that a shape keeps, with the kinds of their symbols
unfoldable pub kept_line : Bytes → Bytes → Shape → Does Bytes → Line Kind Bytes
kept_line kinds s k d = record {
  does = d;
  name = toks_at kinds (take k.name s) 0;
  operation = toks_at kinds (part s k.operation k.gap) 0;
  operand = toks_at kinds (part s k.operand k.rest) 0;
}

-- more pairs of parentheses than these fields can have
unfoldable pub nesting_of : Shape → ℕ
nesting_of k = k.name + ((k.gap - k.operation) + (k.rest - k.operand))

unfoldable pub formed_code : ℕ → Bytes → Bytes → Shape → Does Bytes → Bool
formed_code nest kinds s k d = is_formed_by nest (kept_line kinds s k d) d

-- 5: more locals than a macro may have, of which it has `locals`; more globals than a library may have
unfoldable pub too_many : Tables → ℕ → Bytes → Statement → Bool
too_many t locals operand macro = false
too_many t locals operand mend = false
too_many t locals operand mexit = false
too_many t locals operand (local k) = ltb 0 (length (symbols_in operand)) && ltb local_limit (locals + length (symbols_in operand))
too_many t locals operand (global k) =
    ltb 0 (length (symbols_in operand)) && ltb global_limit (length (names_in t.shared) + count (λ n. not (any (same n) (names_in t.shared))) (symbols_in operand))
too_many t locals operand (set k) = false
too_many t locals operand aif = false
too_many t locals operand ago = false
too_many t locals operand anop = false
too_many t locals operand actr = false
too_many t locals operand model = false

-- the code of each field of a line, and all of them
unfoldable pub name_code : Tables → Fields → Bytes
name_code t f = field_code false t.own t.global t.shared f.name

unfoldable pub operation_code : Tables → Fields → Bytes
operation_code t f = field_code false t.own t.global t.shared f.operation

unfoldable pub operand_code : Tables → Fields → Bytes
operand_code t f = field_code true t.own t.global t.shared f.operand

unfoldable pub code_of : Tables → Fields → Bytes
code_of t f = name_code t f ++ (operation_code t f ++ operand_code t f)

unfoldable pub shape_in : Tables → Fields → Shape
shape_in t f = shape_of (statement_of f.operation) (is_sequence f.name) (ends_of (name_code t f) (operation_code t f) (operand_code t f)) (code_of t f)

unfoldable pub target_code : Tables → Fields → Bytes
target_code t f = part (code_of t f) (shape_in t f).rest (shape_in t f).end

unfoldable pub has_bad_name_in : Tables → List Bytes → List Bytes → Fields → Bool
has_bad_name_in t before from f =
    is_long_sequence f.name || (unknown_in (name_code t f) || (is_used_twice before f.name
    || bad_symbols t before from f.operand (operation_code t f) (operand_code t f) (target_code t f) (statement_of f.operation)))

unfoldable pub does_on : Bytes → Does Bytes
does_on l = (says l (fields_of l) (statement_of (fields_of l).operation)).does

unfoldable pub is_ill_formed_in : Tables → Bytes → Bool
is_ill_formed_in t l =
    let f = fields_of l in
    let k = shape_in t f in
    not (good_fields f.name f.operand (target_code t f) (statement_of f.operation) && formed_code (nesting_of k) t.kinds (code_of t f) k (does_on l))

unfoldable pub is_past_in : Tables → ℕ → Bytes → Bool
is_past_in t locals l =
    let f = fields_of l in
    not (formed_code nest_limit t.kinds (code_of t f) (shape_in t f) (does_on l)) || too_many t locals f.operand (statement_of f.operation)

-- the lowest number of a statement in a body, from 2 on
unfoldable pub statement_fault : Tables → List Bytes → List Bytes → Bool → ℕ → Bytes → ℕ
statement_fault t before from ended locals l =
    let f = fields_of l in
    first_of (misplaced (statement_of f.operation) (is_empty f.operation) ended) (has_bad_name_in t before from f) (is_ill_formed_in t l) (is_past_in t locals l)
