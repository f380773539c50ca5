-- Number 3 of a statement in a body: over codes and tables that hold the macro's names it is the test of `rules`. Assumes nothing.
use mathlib.Core.Path.{◌≡◌, refl, ap, sym, ◌∙◌}
use mathlib.Core.Bool.{Bool, true, false, ◌&&◌, ◌||◌, not}
use mathlib.Core.List.{List, [], ◌∷◌}
use Rattle.text.specs.Bytes.{Bytes, bytes, same}
use Rattle.rules.specs.Choice.{any}
use Rattle.rules.specs.Lexemes.{lexed, sequence_start, is_long}
use Rattle.rules.specs.Fields.{Fields, starts_with, is_empty}
use Rattle.rules.specs.Statement.{Set, Statement, macro, mend, mexit, local, global, set, aif, ago, anop, actr, model}
use Rattle.rules.specs.Library.{Names, start_symbols, operand_parts, is_named}
use Rattle.rules.specs.Faults.{has_long_symbol, has_unknown, is_declared, declares_wrongly, has_other_kind, is_bad_target, is_named_up_to_mend, target_behind, has_bad_body_name}
use Rattle.rules.proofs.ReadLines.{InSet}
use Rattle.shapes.specs.Shapes.{target_text}
use Rattle.symbols.specs.Held.{Held, unknown_in}
use Rattle.symbols.proofs.Fields.{unknown-in}
use Rattle.declaring.specs.Declared.{symbols_in, is_taken, globals_in}
use Rattle.declaring.proofs.Holding.{globals-held, taken-held}
use Rattle.checking.specs.Body.{Tables, bad_symbols, name_code, operation_code, operand_code}

-- of two reasons why a name may not be declared, each can be looked for by itself
pub declares-either : (b o : Bytes → Bool) (ns : List Bytes) → declares_wrongly (λ n. b n || o n) ns ≡ (declares_wrongly b ns || any o ns)
unfolding declares_wrongly any
declares-either b o [] = refl
declares-either b o (n ∷ ns) =
    ap (λ (r : Bool). starts_with (bytes "SYS") n || (b n || o n || (any (same n) ns || r))) (declares-either b o ns)
    ∙ shuffled (starts_with (bytes "SYS") n) (b n) (o n) (any (same n) ns) (declares_wrongly b ns) (any o ns)
  where
    shuffled : (s b o a d e : Bool) → (s || (b || o || (a || (d || e)))) ≡ ((s || (b || (a || d))) || (o || e))
    shuffled true b o a d e = refl
    shuffled false true o a d e = refl
    shuffled false false true true d e = refl
    shuffled false false true false true e = refl
    shuffled false false true false false e = refl
    shuffled false false false true d e = refl
    shuffled false false false false d e = refl

-- a target is bad by the symbol that it starts with
pub bad-by-start : (before from : List Bytes) (s t : Bytes) → sequence_start s ≡ sequence_start t → is_bad_target before from s ≡ is_bad_target before from t
unfolding is_bad_target
bad-by-start before from s t e = ap (λ (x : Bytes). not (is_empty x) && (is_long x || not (any (is_named x) before || is_named_up_to_mend x from))) e

module _ {names : Names} {globals : List (Bytes × Set)} (t : Tables) (h : Held names globals t.own t.global t.shared t.kinds)
    (f : Fields) (in-name : InSet f.name) (in-operation : InSet f.operation) (in-operand : InSet f.operand) where
  pub name-unknown : unknown_in (name_code t f) ≡ has_unknown names (lexed false f.name)
  unfolding name_code
  name-unknown = sym (unknown-in names globals t.own t.global t.shared t.kinds h false f.name in-name)

  operation-unknown : unknown_in (operation_code t f) ≡ has_unknown names (lexed false f.operation)
  unfolding operation_code
  operation-unknown = sym (unknown-in names globals t.own t.global t.shared t.kinds h false f.operation in-operation)

  operand-unknown : unknown_in (operand_code t f) ≡ has_unknown names (lexed true f.operand)
  unfolding operand_code
  operand-unknown = sym (unknown-in names globals t.own t.global t.shared t.kinds h true f.operand in-operand)

  abbrev symbols : List Bytes
  symbols = start_symbols (operand_parts f)

  declared-locally : declares_wrongly (is_taken t.own t.global) (symbols_in f.operand) ≡ declares_wrongly (is_declared names) symbols
  unfolding symbols_in operand_parts
  declared-locally = ap (λ (b : Bytes → Bool). declares_wrongly b symbols) (λ i n. taken-held h n i)

  declared-globally : (k : Set) → (declares_wrongly (is_taken t.own t.global) (symbols_in f.operand) || any (has_other_kind k (globals_in t.shared t.kinds)) (symbols_in f.operand))
      ≡ declares_wrongly (λ n. is_declared names n || has_other_kind k globals n) symbols
  unfolding symbols_in operand_parts
  declared-globally k =
      (λ i. declared-locally i || any (has_other_kind k (globals-held h i)) symbols)
      ∙ sym (declares-either (is_declared names) (has_other_kind k globals) symbols)

  pub bad-symbols : (before from : List Bytes) (target : Bytes) (st : Statement) → sequence_start target ≡ sequence_start (target_text f st)
      → bad_symbols t before from f.operand (operation_code t f) (operand_code t f) target st ≡ has_bad_body_name globals names before from f st
  unfolding bad_symbols has_bad_body_name target_text
  bad-symbols before from target macro e = refl
  bad-symbols before from target mend e = refl
  bad-symbols before from target mexit e = refl
  bad-symbols before from target (local k) e = ap (λ (r : Bool). has_long_symbol (lexed true f.operand) || r) declared-locally
  bad-symbols before from target (global k) e = ap (λ (r : Bool). has_long_symbol (lexed true f.operand) || r) (declared-globally k)
  bad-symbols before from target (set k) e = operand-unknown
  bad-symbols before from target aif e = λ i. operand-unknown i || bad-by-start before from target (target_behind (lexed true f.operand)) e i
  bad-symbols before from target ago e = λ i. operand-unknown i || bad-by-start before from target f.operand e i
  bad-symbols before from target anop e = refl
  bad-symbols before from target actr e = operand-unknown
  bad-symbols before from target model e = λ i. operation-unknown i || operand-unknown i
