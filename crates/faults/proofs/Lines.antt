-- The lowest number of a line of a body: ill-written, a remark, or a statement. Assumes nothing.
use Prim.Native.Nat.{ℕ, ◌+◌}
use mathlib.Core.Path.{◌≡◌, refl, ap, sym, ◌∙◌, subst}
use mathlib.Core.Logic.{⊎_elim}
use mathlib.Core.Bool.{Bool, true, false, ◌&&◌, ◌||◌, not}
use mathlib.Core.List.{List, ◌∷◌}
use lib.Dec.{ltb}
use lib.ListN.{length}
use Rattle.text.specs.Bytes.{Bytes}
use Rattle.text.specs.Words.{words, word_number}
use Rattle.rules.specs.Choice.{choose, any}
use Rattle.rules.specs.Limits.{nest_limit, local_limit, global_limit}
use Rattle.rules.specs.Lexemes.{is_long, sequence_start, marked, symbols, lexed, refs_in, is_sequence}
use Rattle.rules.specs.Fields.{Fields, is_ill_written, is_remark, no_fields, statement_fields, is_empty}
use Rattle.rules.specs.Statement.{statements, statement_of, Line, Does, passes, text, doing, map_does, map_line, read}
use Rattle.rules.specs.Form.{is_formed_by, is_formed, any_nesting}
use Rattle.rules.specs.Library.{operation_of, in_body, Names, names_in, locals_by, locals_on, globals_by, globals_on, with_globals}
use Rattle.rules.specs.Faults.{Around, ends_declarations, is_misplaced, is_out_of_place, kind_named, has_unknown, is_long_sequence, is_used_twice, has_bad_body_name, has_bad_name, are_fields_good, kinds_of, is_ill_formed, is_past}
use Rattle.rules.proofs.Choices.{chosen, passed_over}
use Rattle.rules.proofs.ReadLines.{written_in}
use Rattle.rules.proofs.Said.{remark-says, remark-fields}
use Rattle.symbols.specs.Held.{Held}
use Rattle.prototypes.specs.Lowest.{lowest}
use Rattle.checking.specs.Body.{first_of, Tables, statement_fault}
use Rattle.checking.proofs.Bodies.{fault-in-body}
use Rattle.faults.specs.Coded.{Statement}

module _ (one two three four five : Bool) where
  pub is-one : one ≡ true → 1 ≡ lowest one two three four five
  unfolding lowest
  is-one h = sym (chosen 1 _ h)

  pub not-one : one ≡ false → lowest one two three four five ≡ first_of two three four five
  unfolding lowest first_of
  not-one h = passed_over 1 _ h

-- ---- a remark has none of the numbers 2 to 5

module _ (a : Around) (p : Bytes) (before ls : List Bytes) (l : Bytes) (r : is_remark l ≡ true) where
  abbrev names : Names
  names = names_in p before

  placed : is_out_of_place (in_body p before) l ≡ false
  unfolding is_out_of_place
  placed = ap (λ (b : Bool). not b && is_misplaced before (operation_of l) (statement_of (operation_of l))) r

  named : has_bad_name a l ls (in_body p before) ≡ false
  unfolding has_bad_name is_long_sequence is_long sequence_start has_unknown lexed marked symbols refs_in any is_used_twice is_sequence has_bad_body_name statement_of statements word_number words no_fields
  named =
      subst (λ (f : Fields). (is_long_sequence f.name || (has_unknown names (lexed false f.name) || (is_used_twice before f.name
      || has_bad_body_name a.globals names before (l ∷ ls) f (statement_of f.operation)))) ≡ false) (sym (remark-fields l r)) refl

  formed : is_ill_formed l (in_body p before) ≡ false
  unfolding is_ill_formed
  formed =
      let x = kinds_of names l in
      ap (λ (b : Bool). not b && not (are_fields_good (statement_fields l) (statement_of (statement_fields l).operation) && is_formed (any_nesting x) x)) r

  bare : (d : Does Bytes) → is_formed_by nest_limit (map_line (kind_named names) (λ (t : Bytes). t) (doing d)) (map_does (λ (t : Bytes). t) d) ≡ true → read l ≡ doing d → is_formed nest_limit (kinds_of names l) ≡ true
  unfolding kinds_of is_formed map_line doing
  bare d h e = subst (λ (x : Line Bytes Bytes). is_formed nest_limit (map_line (kind_named names) (λ (t : Bytes). t) x) ≡ true) (sym e) h

  well : is_formed nest_limit (kinds_of names l) ≡ true
  unfolding is_formed_by map_does
  well = ⊎_elim (λ q. bare (text l) refl q) (λ q. bare passes refl q) (remark-says l r)

  within : is_past a l (in_body p before) ≡ false
  unfolding is_past locals_on globals_on locals_by globals_by statement_of statements word_number words no_fields is_empty
  within =
      subst (λ (f : Fields). (not (is_formed nest_limit (kinds_of names l))
      || (not (is_empty (locals_by f (statement_of f.operation))) && ltb local_limit (length names.locals + length (locals_by f (statement_of f.operation)))
      || not (is_empty (globals_by f (statement_of f.operation))) && ltb global_limit (length (with_globals a.globals (globals_by f (statement_of f.operation))))))
      ≡ false) (sym (remark-fields l r)) (ap (λ (b : Bool). not b || false) well)

  pub remark-has-none : is_ill_written l ≡ false
      → 0 ≡ lowest (is_ill_written l) (is_out_of_place (in_body p before) l) (has_bad_name a l ls (in_body p before)) (is_ill_formed l (in_body p before)) (is_past a l (in_body p before))
  unfolding lowest choose
  remark-has-none w = λ i. choose (sym w i) 1 (choose (sym placed i) 2 (choose (sym named i) 3 (choose (sym formed i) 4 (choose (sym within i) 5 0))))

-- ---- a statement

pub statement-there : (l : Bytes) → is_ill_written l ≡ false → is_remark l ≡ false → Statement l
statement-there l w r = let h = written_in l w in record { in-set = h.1; short = h.0; no-remark = r }

module _ (a : Around) (p : Bytes) (before ls from : List Bytes) (t : Tables) (h : Held (names_in p before) a.globals t.own t.global t.shared t.kinds)
    (l : Bytes) (ended : Bool) (locals : ℕ) (w : is_ill_written l ≡ false) (r : is_remark l ≡ false)
    (f : from ≡ l ∷ ls) (e : ended ≡ any ends_declarations before) (n : locals ≡ length (names_in p before).locals) where
  pub statement-has : statement_fault t before from ended locals l
      ≡ lowest (is_ill_written l) (is_out_of_place (in_body p before) l) (has_bad_name a l ls (in_body p before)) (is_ill_formed l (in_body p before)) (is_past a l (in_body p before))
  statement-has =
      (λ i. statement_fault t before (f i) (e i) (n i) l)
      ∙ (fault-in-body a p before ls t h l (written_in l w).1 r ∙ sym (not-one (is_ill_written l) _ _ _ _ w))
