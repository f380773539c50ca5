use mathlib.Core.Path.{sym, ap, ◌∙◌}
use native.Mathlib.Omega.{arith}
use mathlib.Core.List.{[]}
use Rattle.rules.specs.Grammar.{past_spaces, string_within}
use Rattle.rules.specs.Form.{form}
use Rattle.grammar.proofs.Places.{toks-drop}
use Rattle.grammar.proofs.Answers.{tells-broken}
use Rattle.conditions.proofs.Words.{relation-inside}
use Rattle.conditions.proofs.Conditions.{strings-none, strings-second}
use Rattle.conditions.proofs.compared_strings.Goals as goal

pub overflow_add-at : goal.overflow_add-at
overflow_add-at c = let inside = relation-inside [] _ _ (sym (c.relates.ensures []) ∙ c.if-relates.true) in omega arith

pub returns-then-relates : goal.returns-then-relates
returns-then-relates c = let a = c.args in λ inner. c.characters.ensures ∙ ap (string_within form a.nest) (c.past_spaces.ensures a.kinds.now ∙ ap past_spaces (sym (toks-drop a.kinds.now a.code.now _ 2))) ∙ strings-second a.nest inner _ (sym (c.relates.ensures a.kinds.now) ∙ c.if-relates.true)

pub returns-else-relates : goal.returns-else-relates
returns-else-relates c = let a = c.args in λ inner. tells-broken _ _ ∙ strings-none a.nest inner _ (sym (c.relates.ensures a.kinds.now) ∙ c.if-relates.false)
