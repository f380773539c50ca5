-- Document 01, "Definitions": a library's macros, and the names that each of them declares.
use Rattle.std.specs.Prelude.{ℕ, suc, Bool, true, false, ◌&&◌, List, [], ◌∷◌, ◌++◌, drop}
use Rattle.text.specs.Bytes.{Bytes, bytes, same}
use Rattle.rules.specs.Choice.{choose}
use Rattle.rules.specs.Lexemes.{Lex, byte, mark, ref, lone, lexed, unlexed, is_sequence}
use Rattle.rules.specs.Fields.{Fields, fields_of, statement_fields}
use Rattle.rules.specs.Statement.{Set, Statement, macro, mend, mexit, local, global, set, aif, ago, anop, actr, model, statement_of}
use Rattle.rules.specs.Calls.{divided, equals_at, has_equals, is_among}

-- 01: "MACRO, prototype, body, MEND." A macro's body has MEND as its last line.
pub record Macro : Type 0 where
  pub prototype : Bytes
  pub body : List Bytes

unfoldable pub operation_of : Bytes → Bytes
operation_of l = (statement_fields l).operation

unfoldable pub is_macro : Bytes → Bool
is_macro l = same (operation_of l) (bytes "MACRO")

unfoldable pub is_mend : Bytes → Bool
is_mend l = same (operation_of l) (bytes "MEND")

-- where a line of a library stands: outside definitions, right after MACRO, or in the body of a macro with this prototype and these lines before it
pub data Place : Type 0 where
  outer : Place
  at_prototype : Place
  in_body : Bytes → List Bytes → Place

unfoldable pub macros_from : Place → List Bytes → List Macro
macros_from outer [] = []
macros_from at_prototype [] = []
macros_from (in_body p b) [] = []
macros_from outer (l ∷ ls) = choose (is_macro l) (macros_from at_prototype ls) (macros_from outer ls)
macros_from at_prototype (l ∷ ls) = macros_from (in_body l []) ls
macros_from (in_body p b) (l ∷ ls) =
    choose (is_mend l) (record { prototype = p; body = b ++ (l ∷ []) } ∷ macros_from outer ls) (macros_from (in_body p (b ++ (l ∷ []))) ls)

-- the symbol that a text starts with, and the one that is all of it
unfoldable pub start_symbol : List (Lex Bytes) → List Bytes
start_symbol [] = []
start_symbol (byte c ∷ x) = []
start_symbol (mark ∷ x) = []
start_symbol (ref n ∷ x) = n ∷ []
start_symbol (lone ∷ x) = []

unfoldable pub is_one_symbol : {R : Type 0} → List (Lex R) → Bool
is_one_symbol [] = false
is_one_symbol (byte c ∷ x) = false
is_one_symbol (mark ∷ x) = false
is_one_symbol (ref n ∷ []) = true
is_one_symbol (ref n ∷ (y ∷ x)) = false
is_one_symbol (lone ∷ x) = false

-- the symbols that the parts of an operand start with
unfoldable pub start_symbols : List (List (Lex Bytes)) → List Bytes
start_symbols [] = []
start_symbols (p ∷ ps) = start_symbol p ++ start_symbols ps

-- 01: "positionals, then keywords `&K=default`"
unfoldable pub positional_names : List (List (Lex Bytes)) → List Bytes
positional_names [] = []
positional_names (p ∷ ps) = choose (has_equals p) [] (start_symbol p) ++ positional_names ps

unfoldable pub with_default : List Bytes → Bytes → List (Bytes × Bytes)
with_default [] d = []
with_default (n ∷ ns) d = (n, d) ∷ []

unfoldable pub keyword_names : List (List (Lex Bytes)) → List (Bytes × Bytes)
keyword_names [] = []
keyword_names (p ∷ ps) = choose (has_equals p) (with_default (start_symbol p) (unlexed (drop (suc (equals_at p)) p))) [] ++ keyword_names ps

unfoldable pub of_kind : Set → List Bytes → List (Bytes × Set)
of_kind k [] = []
of_kind k (n ∷ ns) = (n, k) ∷ of_kind k ns

-- the parts of an operand that is divided at commas outside quotes and parentheses
unfoldable pub operand_parts : Fields → List (List (Lex Bytes))
operand_parts f = divided (lexed true f.operand)

unfoldable pub locals_by : Fields → Statement → List (Bytes × Set)
locals_by f macro = []
locals_by f mend = []
locals_by f mexit = []
locals_by f (local k) = of_kind k (start_symbols (operand_parts f))
locals_by f (global k) = []
locals_by f (set k) = []
locals_by f aif = []
locals_by f ago = []
locals_by f anop = []
locals_by f actr = []
locals_by f model = []

unfoldable pub globals_by : Fields → Statement → List (Bytes × Set)
globals_by f macro = []
globals_by f mend = []
globals_by f mexit = []
globals_by f (local k) = []
globals_by f (global k) = of_kind k (start_symbols (operand_parts f))
globals_by f (set k) = []
globals_by f aif = []
globals_by f ago = []
globals_by f anop = []
globals_by f actr = []
globals_by f model = []

-- what a line declares
unfoldable pub locals_on : Bytes → List (Bytes × Set)
locals_on l = let f = statement_fields l in locals_by f (statement_of f.operation)

unfoldable pub globals_on : Bytes → List (Bytes × Set)
globals_on l = let f = statement_fields l in globals_by f (statement_of f.operation)

unfoldable pub declared_in : (Bytes → List (Bytes × Set)) → List Bytes → List (Bytes × Set)
declared_in on [] = []
declared_in on (l ∷ ls) = on l ++ declared_in on ls

-- the names of a macro: its name parameter (or none), positionals, keywords with their defaults, local and global SET symbols
pub record Names : Type 0 where
  pub name : List Bytes
  pub positionals : List Bytes
  pub keywords : List (Bytes × Bytes)
  pub locals : List (Bytes × Set)
  pub globals : List (Bytes × Set)

unfoldable pub names_in : Bytes → List Bytes → Names
names_in prototype body =
    let f = fields_of prototype in
    record {
      name = start_symbol (lexed false f.name);
      positionals = positional_names (operand_parts f);
      keywords = keyword_names (operand_parts f);
      locals = declared_in locals_on body;
      globals = declared_in globals_on body;
    }

unfoldable pub firsts : {X : Type 0} → List (Bytes × X) → List Bytes
firsts [] = []
firsts (k ∷ ks) = k.0 ∷ firsts ks

unfoldable pub seconds : {X : Type 0} → List (Bytes × X) → List X
seconds [] = []
seconds (k ∷ ks) = k.1 ∷ seconds ks

unfoldable pub parameter_names : Names → List Bytes
parameter_names n = n.name ++ (n.positionals ++ firsts n.keywords)

-- one name is one global, wherever it is declared: those of `new` that are not there yet, behind those that are
unfoldable pub with_globals : List (Bytes × Set) → List (Bytes × Set) → List (Bytes × Set)
with_globals known [] = known
with_globals known (g ∷ gs) = with_globals (choose (is_among g.0 known) known (known ++ (g ∷ []))) gs

unfoldable pub globals_of : List (Bytes × Set) → List Names → List (Bytes × Set)
globals_of known [] = known
globals_of known (n ∷ ns) = globals_of (with_globals known n.globals) ns

-- the sequence symbol that names a line
unfoldable pub is_named : Bytes → Bytes → Bool
is_named symbol l = let n = (statement_fields l).name in is_sequence n && same (drop 1 n) symbol

-- the first body line that a sequence symbol names, counted from 0; how many lines there are where none is
unfoldable pub line_named : Bytes → List Bytes → ℕ
line_named symbol [] = 0
line_named symbol (l ∷ ls) = choose (is_named symbol l) 0 (suc (line_named symbol ls))
