-- The numbers 2 to 5 of a statement in a body, over codes and tables, are those of `rules`. Assumes nothing.
use Prim.Native.Nat.{ℕ, ◌+◌}
use mathlib.Core.Path.{◌≡◌, refl, ap, sym, ◌∙◌, subst}
use mathlib.Core.Bool.{Bool, true, false, ◌&&◌, ◌||◌, not}
use mathlib.Core.List.{List, ◌∷◌}
use lib.Dec.{ltb}
use lib.ListN.{length}
use Rattle.text.specs.Bytes.{Bytes}
use Rattle.rules.specs.Choice.{choose, any}
use Rattle.rules.specs.Limits.{nest_limit, local_limit, global_limit}
use Rattle.rules.specs.Lexemes.{lexed}
use Rattle.rules.specs.Fields.{Fields, fields_of, is_empty, is_remark, statement_fields}
use Rattle.rules.specs.Statement.{Set, Statement, macro, mend, mexit, local, global, set, aif, ago, anop, actr, model, statement_of, Line, map_line, says, read}
use Rattle.rules.specs.Grammar.{Kind}
use Rattle.rules.specs.Form.{is_formed, any_nesting}
use Rattle.rules.specs.Library.{in_body, Names, names_in, start_symbols, operand_parts, operation_of, locals_by, locals_on, globals_by, globals_on, with_globals}
use Rattle.rules.specs.Faults.{Around, ends_declarations, is_misplaced, is_out_of_place, kind_named, has_unknown, is_declared, is_long_sequence, has_long_symbol, is_used_twice, declares_wrongly, has_other_kind, has_bad_body_name, has_bad_name, are_fields_good, kinds_of, is_ill_formed, is_past}
use Rattle.rules.proofs.Choices.{passed_over, by}
use Rattle.rules.proofs.Logic.{or_left, or_right}
use Rattle.rules.proofs.ReadLines.{InSet, Holds, fields-held, Reads, line_reads}
use Rattle.rules.proofs.BodyLines.{AllKnown, statement-known}
use Rattle.rules.proofs.Said.{statement-says}
use Rattle.names.specs.Names.{slot_byte}
use Rattle.coding.specs.Coded.{field_code}
use Rattle.targets.proofs.Coded.{start-coded, sequence-coded, slot-byte-high, slot-byte-ends, slot-byte-other}
use Rattle.symbols.specs.Held.{Held}
use Rattle.shapes.specs.Shapes.{target_text, Spelt}
use Rattle.shapes.proofs.Spelt.{spelt}
use Rattle.declaring.specs.Declared.{symbols_in}
use Rattle.filling.proofs.Counts.{grown-count}
use Rattle.checking.specs.Body.{first_of, misplaced, Tables, nesting_of, formed_code, name_code, operation_code, operand_code, code_of, shape_in, target_code, has_bad_name_in, does_on, is_ill_formed_in, is_past_in, statement_fault}
use Rattle.checking.proofs.Symbols.{declares-either, name-unknown, bad-symbols}
use Rattle.checking.proofs.Formed.{good-fields, formed-coded, nesting-coded}
use Rattle.checking.proofs.Counted.{past, too-many}

pub misplaced-is : (before : List Bytes) (o : Bytes) (st : Statement) → misplaced st (is_empty o) (any ends_declarations before) ≡ is_misplaced before o st
unfolding misplaced is_misplaced
misplaced-is before o macro = refl
misplaced-is before o mend = refl
misplaced-is before o mexit = refl
misplaced-is before o (local k) = refl
misplaced-is before o (global k) = refl
misplaced-is before o (set k) = refl
misplaced-is before o aif = refl
misplaced-is before o ago = refl
misplaced-is before o anop = refl
misplaced-is before o actr = refl
misplaced-is before o model = refl

-- of the lowest number, what later tests say counts only where the earlier ones fail
first-same : (two two' three three' four four' five five' : Bool) → two ≡ two' → three ≡ three' → (three' ≡ false → four ≡ four') → (three' ≡ false → five ≡ five')
    → first_of two three four five ≡ first_of two' three' four' five'
unfolding first_of choose
first-same two two' three three' four four' five five' a b c d =
    by three'
    (λ e. (λ i. choose (a i) 2 (choose ((b ∙ e) i) 3 (choose four 4 (choose five 5 0)))) ∙ sym (λ i. choose two' 2 (choose (e i) 3 (choose four' 4 (choose five' 5 0)))))
    (λ e. λ i. choose (a i) 2 (choose (b i) 3 (choose (c e i) 4 (choose (d e i) 5 0))))

-- a statement, where tables hold the names of its macro up to it
module _ {names : Names} {globals : List (Bytes × Set)} (t : Tables) (h : Held names globals t.own t.global t.shared t.kinds)
    (l : Bytes) (in-set : InSet l) (no-remark : is_remark l ≡ false) where
  abbrev f : Fields
  f = fields_of l

  abbrev st : Statement
  st = statement_of f.operation

  in-fields : Holds l f
  in-fields = fields-held l in-set

  fields-are : statement_fields l ≡ f
  unfolding statement_fields
  fields-are = passed_over _ _ no-remark

  pub says-line : read l ≡ says l f st
  says-line = statement-says l no-remark ∙ (λ i. says l (fields-are i) (statement_of (fields-are i).operation))

  abbrev g : Bytes → ℕ
  g = slot_byte t.own t.global t.shared

  pub line-spelt : Spelt g (says l f st) (target_text f st) (code_of t f) (shape_in t f)
  unfolding code_of shape_in name_code operation_code operand_code field_code
  line-spelt =
      spelt g (λ n. slot-byte-high t.own t.global t.shared n) l f in-fields.name-in in-fields.operation-in in-fields.operand_in
      (λ x. start-coded g (slot-byte-ends t.own t.global t.shared) (slot-byte-other t.own t.global t.shared) x)
      (λ x. sequence-coded g (slot-byte-ends t.own t.global t.shared) (slot-byte-other t.own t.global t.shared) x) st

  module _ (before from : List Bytes) where
    abbrev bad : Bool
    bad = is_long_sequence f.name || (has_unknown names (lexed false f.name) || (is_used_twice before f.name || has_bad_body_name globals names before from f st))

    bad-name : has_bad_name_in t before from f ≡ bad
    unfolding has_bad_name_in target_code
    bad-name =
        λ i. is_long_sequence f.name || (name-unknown t h f in-fields.name-in in-fields.operation-in in-fields.operand_in i || (is_used_twice before f.name
        || bad-symbols t h f in-fields.name-in in-fields.operation-in in-fields.operand_in before from (target_code t f) st line-spelt.start i))

    module _ (good : bad ≡ false) where
      later : (has_unknown names (lexed false f.name) || (is_used_twice before f.name || has_bad_body_name globals names before from f st)) ≡ false
      later = or_right (is_long_sequence f.name) _ good

      good-body : has_bad_body_name globals names before from f st ≡ false
      good-body = or_right (is_used_twice before f.name) _ (or_right (has_unknown names (lexed false f.name)) _ later)

      all_known : AllKnown names (says l f st)
      all_known = statement-known l f names globals before from (or_left (has_unknown names (lexed false f.name)) _ later) st good-body

      reads : Reads l (says l f st)
      reads = subst (Reads l) says-line (line_reads l in-set)

      abbrev kinded : Line Kind Bytes
      kinded = map_line (kind_named names) (λ (t : Bytes). t) (says l f st)

      formed : (nest : ℕ) → formed_code nest t.kinds (code_of t f) (shape_in t f) (does_on l) ≡ is_formed nest kinded
      unfolding does_on
      formed nest = formed-coded t h l (says l f st) reads all_known (target_text f st) (code_of t f) (shape_in t f) line-spelt nest

      ill-formed : is_ill_formed_in t l ≡ not (are_fields_good f st && is_formed (any_nesting kinded) kinded)
      unfolding is_ill_formed_in target_code
      ill-formed =
          λ i. not (good-fields f (target_code t f) st line-spelt.is-sequence i
          && (formed (nesting_of (shape_in t f)) ∙ ap (λ (n : ℕ). is_formed n kinded) (nesting-coded t h l (says l f st) reads all_known (target_text f st) (code_of t f) (shape_in t f) line-spelt)) i)

      -- the symbols that a GBL line declares are not declared by the macro, and no other is given another kind
      global-good : (k : Set) → st ≡ global k → declares_wrongly (λ n. is_declared names n || has_other_kind k globals n) (start_symbols (operand_parts f)) ≡ false
      unfolding has_bad_body_name
      global-good k e = or_right (has_long_symbol (lexed true f.operand)) _ (subst (λ s. has_bad_body_name globals names before from f s ≡ false) e good-body)

      global-new : (k : Set) → st ≡ global k → declares_wrongly (is_declared names) (symbols_in f.operand) ≡ false
      unfolding symbols_in operand_parts
      global-new k e = or_left _ (any (has_other_kind k globals) (start_symbols (operand_parts f))) (sym (declares-either (is_declared names) (has_other_kind k globals) (start_symbols (operand_parts f))) ∙ global-good k e)

      past-limits : is_past_in t (length names.locals) l ≡ (not (is_formed nest_limit kinded) || past t h f st)
      unfolding is_past_in
      past-limits = λ i. not (formed nest_limit i) || too-many t h f st (λ k e. grown-count (is_declared names) k (symbols_in f.operand) globals (global-new k e)) i

-- the line of a body that stands behind these
module _ (a : Around) (p : Bytes) (before ls : List Bytes) (t : Tables) (h : Held (names_in p before) a.globals t.own t.global t.shared t.kinds)
    (l : Bytes) (in-set : InSet l) (no-remark : is_remark l ≡ false) where
  abbrev names : Names
  names = names_in p before

  two_is : misplaced (statement_of (fields_of l).operation) (is_empty (fields_of l).operation) (any ends_declarations before) ≡ is_out_of_place (in_body p before) l
  unfolding is_out_of_place operation_of
  two_is =
      let e = fields-are t h l in-set no-remark in
      misplaced-is before (fields_of l).operation (statement_of (fields_of l).operation)
      ∙ (λ i. not (sym no-remark i) && is_misplaced before (sym e i).operation (statement_of (sym e i).operation))

  three-is : has_bad_name_in t before (l ∷ ls) (fields_of l) ≡ has_bad_name a l ls (in_body p before)
  unfolding has_bad_name
  three-is =
      let e = fields-are t h l in-set no-remark in
      bad-name t h l in-set no-remark before (l ∷ ls)
      ∙ (λ i. is_long_sequence (sym e i).name || (has_unknown names (lexed false (sym e i).name) || (is_used_twice before (sym e i).name
      || has_bad_body_name a.globals names before (l ∷ ls) (sym e i) (statement_of (sym e i).operation))))

  module _ (good : has_bad_name a l ls (in_body p before) ≡ false) where
    good-here : bad t h l in-set no-remark before (l ∷ ls) ≡ false
    good-here = sym (bad-name t h l in-set no-remark before (l ∷ ls)) ∙ (three-is ∙ good)

    kinds-are : map_line (kind_named names) (λ (t : Bytes). t) (says l (fields_of l) (statement_of (fields_of l).operation)) ≡ kinds_of names l
    unfolding kinds_of
    kinds-are = ap (map_line (kind_named names) (λ (t : Bytes). t)) (sym (says-line t h l in-set no-remark))

    four_is : is_ill_formed_in t l ≡ is_ill_formed l (in_body p before)
    unfolding is_ill_formed
    four_is =
        let e = fields-are t h l in-set no-remark in
        ill-formed t h l in-set no-remark before (l ∷ ls) good-here
        ∙ (λ i. not (sym no-remark i) && not (are_fields_good (sym e i) (statement_of (sym e i).operation) && is_formed (any_nesting (kinds-are i)) (kinds-are i)))

    five-is : is_past_in t (length names.locals) l ≡ is_past a l (in_body p before)
    unfolding is_past locals_on globals_on
    five-is =
        let e = fields-are t h l in-set no-remark in
        past-limits t h l in-set no-remark before (l ∷ ls) good-here
        ∙ (λ i. not (is_formed nest_limit (kinds-are i))
        || (not (is_empty (locals_by (sym e i) (statement_of (sym e i).operation))) && ltb local_limit (length names.locals + length (locals_by (sym e i) (statement_of (sym e i).operation)))
        || not (is_empty (globals_by (sym e i) (statement_of (sym e i).operation))) && ltb global_limit (length (with_globals a.globals (globals_by (sym e i) (statement_of (sym e i).operation))))))

  pub fault-in-body : statement_fault t before (l ∷ ls) (any ends_declarations before) (length names.locals) l
      ≡ first_of (is_out_of_place (in_body p before) l) (has_bad_name a l ls (in_body p before)) (is_ill_formed l (in_body p before)) (is_past a l (in_body p before))
  unfolding statement_fault
  fault-in-body = first-same _ _ _ _ _ _ _ _ two_is three-is four_is five-is
