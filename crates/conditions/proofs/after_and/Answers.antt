use mathlib.Core.Path.{sym, ◌∙◌}
use mathlib.Core.List.{[]}
use native.Mathlib.Omega.{arith}
use lib.Dec.{lit<}
use Rattle.text.specs.Bytes.{bytes}
use Rattle.rules.proofs.Choices.{chosen, passed_over}
use Rattle.conditions.proofs.Words.{word-inside}
use Rattle.conditions.proofs.after_and.Goals as goal

pub overflow_add-result : goal.overflow_add-result
overflow_add-result c = let inside = word-inside [] _ (bytes "AND") _ (sym (c.three_letters.ensures []) ∙ c.if-three_letters.true) (lit< tt) in omega arith

pub returns-then-three_letters : goal.returns-then-three_letters
returns-then-three_letters c = λ kinds. sym (chosen _ _ (sym (c.three_letters.ensures kinds) ∙ c.if-three_letters.true))

pub returns-else-three_letters : goal.returns-else-three_letters
returns-else-three_letters c = λ kinds. sym (passed_over _ _ (sym (c.three_letters.ensures kinds) ∙ c.if-three_letters.false))
