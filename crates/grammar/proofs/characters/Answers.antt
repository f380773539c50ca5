use mathlib.Core.Path.{sym, ap, ◌∙◌}
use mathlib.Core.List.{[]}
use mathlib.Core.Option.{some}
use native.Mathlib.Omega.{arith}
use Rattle.rules.specs.Grammar.{referred, deeper}
use Rattle.rules.specs.Form.{form}
use Rattle.grammar.specs.Tokens.{toks_at}
use Rattle.kinds.specs.declared.Stand.TheVariants.{AfterT}
use Rattle.kinds.specs.Kinds.{table_of}
use Rattle.grammar.proofs.Places.{toks-drop, attribute-inside}
use Rattle.grammar.proofs.Quotes.{characters-type, characters-strings}
use Rattle.grammar.proofs.characters.Goals as goal

pub overflow_add-at : goal.overflow_add-at
overflow_add-at c = let inside = attribute-inside [] _ _ _ (sym (c.attribute_at.ensures []) ∙ c.if-attribute_at.true) in omega arith

pub returns-then-attribute_at : goal.returns-then-attribute_at
returns-then-attribute_at c = let a = c.args in c.referred.ensures ∙ ap (referred form (deeper form a.nest) (table_of AfterT) (λ r. some tt) (toks_at a.kinds.now a.code.now _)) (sym (toks-drop a.kinds.now a.code.now _ 2)) ∙ characters-type a.nest _ (sym (c.attribute_at.ensures a.kinds.now) ∙ c.if-attribute_at.true)

pub returns : goal.returns
returns c = let a = c.args in c.strings.ensures ∙ characters-strings a.nest _ (sym (c.attribute_at.ensures a.kinds.now) ∙ c.if-attribute_at.false)
