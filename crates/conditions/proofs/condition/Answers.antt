use mathlib.Core.Path.{sym, ap, ◌∙◌}
use native.Mathlib.Omega.{arith}
use mathlib.Core.List.{[]}
use Rattle.rules.specs.Grammar.{deeper_condition}
use Rattle.rules.specs.Grammar.{closed as closed_by}
use Rattle.rules.specs.Form.{form}
use Rattle.grammar.specs.Tokens.{toks_at}
use Rattle.grammar.proofs.Places.{toks-rest, text-inside}
use Rattle.grammar.proofs.Answers.{tells-broken, then-on, then-off}
use Rattle.conditions.proofs.Conditions.{condition-none, condition-opens}
use Rattle.conditions.proofs.condition.Goals as goal

pub returns-then-text_at-ne40 : goal.returns-then-text_at-ne40
returns-then-text_at-ne40 c = let a = c.args in tells-broken _ _ ∙ condition-none a.nest _ (c.text_at.ensures a.kinds.now) c.if-text_at-ne40.true

pub overflow_add-at : goal.overflow_add-at
overflow_add-at c = let inside = text-inside [] _ _ _ (c.text_at.ensures []) (omega arith) in omega arith

pub returns : goal.returns
returns c = let a = c.args in c.closed.ensures a.kinds.now ∙ then-on (toks_at a.kinds.now a.code.now) closed_by (c.deeper_condition.ensures ∙ ap (deeper_condition form a.nest) (sym (toks-rest a.kinds.now a.code.now _))) c.in_ok-deeper_condition.was ∙ condition-opens a.nest _ (c.text_at.ensures a.kinds.now) c.if-text_at-ne40.false

pub returns-in_err-deeper_condition : goal.returns-in_err-deeper_condition
returns-in_err-deeper_condition c = let a = c.args in then-off (toks_at a.kinds.now a.code.now) closed_by (c.deeper_condition.ensures ∙ ap (deeper_condition form a.nest) (sym (toks-rest a.kinds.now a.code.now _))) c.in_err-deeper_condition.was _ c.from_residual.ensures.1 ∙ condition-opens a.nest _ (c.text_at.ensures a.kinds.now) c.if-text_at-ne40.false
