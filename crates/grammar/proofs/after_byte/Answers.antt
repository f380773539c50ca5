use native.Mathlib.Omega.{arith}
use mathlib.Core.List.{[]}
use mathlib.Core.Path.{sym}
use borrow.Author.Tests.{ne_eqb, eq-eqb}
use Rattle.rules.proofs.Choices.{chosen, passed_over}
use Rattle.grammar.proofs.Places.{text-inside}
use Rattle.grammar.proofs.after_byte.Goals as goal

pub overflow_add-result : goal.overflow_add-result
overflow_add-result c = let inside = text-inside [] _ _ _ (c.text_at.ensures []) (omega arith) in omega arith

pub returns-then-text_at-c : goal.returns-then-text_at-c
returns-then-text_at-c c = λ kinds. sym (chosen _ _ (rw (← c.text_at.ensures kinds) (eq-eqb _ _ c.if-text_at-c.true)))

pub returns-else-text_at-c : goal.returns-else-text_at-c
returns-else-text_at-c c = λ kinds. sym (passed_over _ _ (rw (← c.text_at.ensures kinds) (ne_eqb _ _ c.if-text_at-c.false)))
