use mathlib.Core.Path.{sym, ◌∙◌}
use mathlib.Core.List.{[]}
use native.Mathlib.Omega.{arith}
use lib.ListN.{length-drop}
use mir.Syntax.{w32}
use mir.ValLaws.{to_z_pos}
use Rattle.grammar.proofs.Numbers.{digit-bounds}
use Rattle.value_sums.proofs.Answers.{same-plain}
use Rattle.value_sums.proofs.Numbers.{none-counted, counted-on, counted-over, stops-digit, stops-end, decimal-over, decimal-letter, decimal-reads}
use borrow.Author.Rules.{rules}
use Rattle.value_sums.proofs.decimal.Goals.{else-loop-c-test, then-loop-c-test+then-not-digit}
use Rattle.value_sums.proofs.decimal.Goals as goal

pub loop-c-init : goal.loop-c-init
loop-c-init c = (none-counted _, omega arith)

pub overflow_mul-number : goal.overflow_mul-number
overflow_mul-number c = let few = c.loop-c.invariant.0.few in omega arith

pub overflow_sub-c : goal.overflow_sub-c
overflow_sub-c c = (digit-bounds _ (sym c.digit.ensures ∙ c.if-not-digit.false)).0

pub overflow_add-number : goal.overflow_add-number
overflow_add-number c = let few = c.loop-c.invariant.0.few in let high = (digit-bounds _ (sym c.digit.ensures ∙ c.if-not-digit.false)).1 in let d = c.from.ensures in omega arith

pub returns-then-number-gt2147483647 : goal.returns-then-number-gt2147483647
returns-then-number-gt2147483647 c held inner = decimal-over c.args.code.now c.args.at held inner c.behind-c-items.ensures (counted-over _ _ c.loop-c-test.true c.loop-c.invariant.0 (sym c.digit.ensures ∙ c.if-not-digit.false) c.from.ensures c.if-number-gt2147483647.true)

pub overflow_add-next : goal.overflow_add-next
overflow_add-next c = let here = c.loop-c.invariant.1 in let in_code = c.loop-c-test.true in let e = c.behind-c-items.ensures in let size = length-drop c.args.at c.args.code.now in search rules

pub loop-c-preserved : goal.loop-c-preserved
loop-c-preserved c = let here = c.loop-c.invariant.1 in (counted-on _ _ c.loop-c-test.true c.loop-c.invariant.0 (sym c.digit.ensures ∙ c.if-not-digit.false) c.from.ensures c.if-number-gt2147483647.false, omega arith)

pub returns-then-letter : goal.returns-then-letter
returns-then-letter c held inner = decimal-letter c.args.code.now c.args.at held inner c.behind-c-items.ensures c.loop-c.invariant.0 c.loop-c.invariant.1 (elim c.loop-c-test.branch [
  | else-loop-c-test w ↦ stops-end _ _ w.loop-c-test.false
  | then-loop-c-test+then-not-digit w ↦ stops-digit _ _ w.loop-c-test.true (sym w.digit.ensures ∙ w.if-not-digit.true)
]) (c.text_at.ensures [] ∙ same-plain [] held _ _) (sym c.letter.ensures ∙ c.if-letter.true)

pub overflow_cast-result : goal.overflow_cast-result
overflow_cast-result c = let few = c.loop-c.invariant.0.few in omega arith

pub returns : goal.returns
returns c held inner = let few = c.loop-c.invariant.0.few in rw (to_z_pos w32 c.loop-c.number (omega arith)) (decimal-reads c.args.code.now c.args.at held inner c.behind-c-items.ensures c.loop-c.invariant.0 c.loop-c.invariant.1 (elim c.loop-c-test.branch [
  | else-loop-c-test w ↦ stops-end _ _ w.loop-c-test.false
  | then-loop-c-test+then-not-digit w ↦ stops-digit _ _ w.loop-c-test.true (sym w.digit.ensures ∙ w.if-not-digit.true)
]) (c.text_at.ensures [] ∙ same-plain [] held _ _) (sym c.letter.ensures ∙ c.if-letter.false))
