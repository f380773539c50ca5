-- What acceptance says of a macro's prototype.
use Prim.Native.Nat.{ℕ, ◌+◌, ◌≤◌}
use mathlib.Core.Path.{◌≡◌, ap, ◌∙◌}
use mathlib.Core.Bool.{true, false, ◌||◌, not}
use mathlib.Core.List.{List, ◌++◌}
use lib.Dec.{leb}
use lib.ListN.{length}
use borrow.Author.Tests.{not-false, ltb-false}
use Rattle.text.specs.Bytes.{Bytes, same}
use Rattle.rules.specs.Choice.{any}
use Rattle.rules.specs.Limits.{library_limit, parameter_limit}
use Rattle.rules.specs.Lexemes.{lexed}
use Rattle.rules.specs.Fields.{is_remark, Fields, fields_of, no_fields, statement_fields, is_empty}
use Rattle.rules.specs.Statement.{Set}
use Rattle.rules.specs.Library.{at_prototype, operation_of, is_one_symbol, start_symbol, start_symbols, operand_parts}
use Rattle.rules.specs.Faults.{is_out_of_place, has_long_symbol, is_long_sequence, declares_wrongly, is_macro_name, before_equals, has_bad_prototype_name, has_bad_name, are_good_parts, is_good_prototype, is_ill_formed, is_past, is_over_limit}
use Rattle.rules.proofs.Choices.{by, passed_over, and_right}
use Rattle.rules.proofs.Logic.{clash, or_left, or_right}
use Rattle.rules.proofs.Said.{remark-fields}
use Rattle.rules.proofs.Accepted.{Faultless, around}

module _ {n m : ℕ} {ts : List Bytes} {gs : List (Bytes × Set)} {p : Bytes} {more : List Bytes} (h : Faultless (around n m ts gs at_prototype) p more) where
  abbrev f : Fields
  f = fields_of p

  -- a prototype is no remark
  statement-fields : statement_fields p ≡ f
  unfolding is_out_of_place operation_of no_fields is_empty statement_fields
  statement-fields = by (is_remark p) (λ e. clash (ap (λ (g : Fields). is_empty g.operation) (remark-fields p e)) h.placed) (λ e. passed_over _ _ e)

  pub title-is : operation_of p ≡ f.operation
  unfolding operation_of
  title-is = ap (λ (g : Fields). g.operation) statement-fields

  names-good : has_bad_prototype_name ts f ≡ false
  unfolding has_bad_name
  names-good = h.named

  pub title-named : is_macro_name (operation_of p) ≡ true
  unfolding has_bad_prototype_name
  title-named = ap is_macro_name title-is ∙ not-false _ (or_left (not (is_macro_name f.operation)) _ names-good)

  pub title-new : any (same (operation_of p)) ts ≡ false
  unfolding has_bad_prototype_name
  title-new =
      ap (λ (o : Bytes). any (same o) ts) title-is
      ∙ or_left (any (same f.operation) ts) _ (or_right (not (is_macro_name f.operation)) _ names-good)

  symbols-good : (any (λ part. has_long_symbol (before_equals part)) (operand_parts f)
      || declares_wrongly (λ n. false) (start_symbol (lexed false f.name) ++ start_symbols (operand_parts f))) ≡ false
  unfolding has_bad_prototype_name
  symbols-good =
      or_right (has_long_symbol (lexed false f.name)) _
      (or_right (is_long_sequence f.name) _ (or_right (any (same f.operation) ts) _ (or_right (not (is_macro_name f.operation)) _ names-good)))

  pub none-long : any (λ part. has_long_symbol (before_equals part)) (operand_parts f) ≡ false
  none-long = or_left _ _ symbols-good

  pub declared-well : declares_wrongly (λ n. false) (start_symbol (lexed false f.name) ++ start_symbols (operand_parts f)) ≡ false
  declared-well = or_right (any (λ part. has_long_symbol (before_equals part)) (operand_parts f)) _ symbols-good

  pub parts-good : are_good_parts false (operand_parts f) ≡ true
  unfolding is_ill_formed is_good_prototype
  parts-good = and_right (is_empty f.name || is_one_symbol (lexed false f.name)) (are_good_parts false (operand_parts f)) (not-false _ h.formed)

  pub few-parts : length (operand_parts f) + length (start_symbol (lexed false f.name)) ≤ parameter_limit
  unfolding is_over_limit is_past
  few-parts = ltb-false parameter_limit _ (or_right (leb library_limit n) _ h.within)
