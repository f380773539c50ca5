use mathlib.Core.Path.{sym, ◌∙◌}
use mathlib.Core.List.{[]}
use native.Mathlib.Omega.{arith}
use lib.Dec.{lit<}
use Rattle.text.specs.Bytes.{bytes}
use Rattle.rules.proofs.Choices.{chosen, passed_over}
use Rattle.conditions.proofs.Words.{word-inside}
use Rattle.conditions.proofs.after_or.Goals as goal

pub overflow_add-result : goal.overflow_add-result
overflow_add-result c = let inside = word-inside [] _ (bytes "OR") _ (sym (c.two_letters.ensures []) ∙ c.if-two_letters.true) (lit< tt) in omega arith

pub returns-then-two_letters : goal.returns-then-two_letters
returns-then-two_letters c = λ kinds. sym (chosen _ _ (sym (c.two_letters.ensures kinds) ∙ c.if-two_letters.true))

pub returns-else-two_letters : goal.returns-else-two_letters
returns-else-two_letters c = λ kinds. sym (passed_over _ _ (sym (c.two_letters.ensures kinds) ∙ c.if-two_letters.false))
