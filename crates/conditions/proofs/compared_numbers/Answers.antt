use mathlib.Core.Path.{sym, ap, ◌∙◌}
use native.Mathlib.Omega.{arith}
use mathlib.Core.List.{[]}
use Rattle.rules.specs.Grammar.{past_spaces}
use Rattle.grammar.proofs.Places.{toks-drop}
use Rattle.grammar.proofs.Answers.{tells-broken}
use Rattle.conditions.proofs.Words.{relation-inside}
use Rattle.conditions.proofs.Conditions.{numbers-none, numbers-open, numbers-second}
use Rattle.conditions.proofs.compared_numbers.Goals as goal

pub returns-then-not-relates : goal.returns-then-not-relates
returns-then-not-relates c = let a = c.args in λ inner. c.constant.ensures a.kinds.now a.nest inner ∙ numbers-none a.nest inner _ _ (c.past_spaces-relation.ensures a.kinds.now) (sym (c.relates.ensures a.kinds.now) ∙ c.if-not-relates.true)

pub overflow_add-relation : goal.overflow_add-relation
overflow_add-relation c = let inside = relation-inside [] _ _ (sym (c.relates.ensures []) ∙ c.if-not-relates.false) in omega arith

pub returns-then-text_at-eq40 : goal.returns-then-text_at-eq40
returns-then-text_at-eq40 c = let a = c.args in λ inner. tells-broken _ _ ∙ numbers-open a.nest inner _ _ (c.past_spaces-relation.ensures a.kinds.now) (sym (c.relates.ensures a.kinds.now) ∙ c.if-not-relates.false) (c.past_spaces-second.ensures a.kinds.now ∙ ap past_spaces (sym (toks-drop a.kinds.now a.code.now _ 2))) (c.text_at.ensures a.kinds.now) c.if-text_at-eq40.true

pub returns : goal.returns
returns c = let a = c.args in λ inner. c.arithmetic.ensures ∙ numbers-second a.nest inner _ _ (c.past_spaces-relation.ensures a.kinds.now) (sym (c.relates.ensures a.kinds.now) ∙ c.if-not-relates.false) (c.past_spaces-second.ensures a.kinds.now ∙ ap past_spaces (sym (toks-drop a.kinds.now a.code.now _ 2))) (c.text_at.ensures a.kinds.now) c.if-text_at-eq40.false
