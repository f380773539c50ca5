use mathlib.Core.Path.{sym, ◌∙◌, ap}
use native.Mathlib.Omega.{arith}
use borrow.Author.Tests.{ne_eqb, eq-eqb}
use mathlib.Core.List.{[]}
use Rattle.rules.specs.Grammar.{is_attribute, rest, starts_mark}
use Rattle.grammar.proofs.Places.{text-inside, toks-drop}
use Rattle.grammar.proofs.attribute_at.Goals as goal

pub returns-then-text_at-c : goal.returns-then-text_at-c
unfolding is_attribute
returns-then-text_at-c c = λ kinds. rw (← c.text_at.ensures kinds, ne_eqb _ _ c.if-text_at-c.true)

pub overflow_add-at : goal.overflow_add-at
overflow_add-at c = let inside = text-inside [] _ _ _ (c.text_at.ensures []) (omega arith) in omega arith

pub returns : goal.returns
unfolding is_attribute rest
returns c = λ kinds. rw (← c.text_at.ensures kinds, eq-eqb _ _ c.if-text_at-c.false) (c.mark_at.ensures kinds ∙ ap starts_mark (sym (toks-drop kinds _ _ 1)))
