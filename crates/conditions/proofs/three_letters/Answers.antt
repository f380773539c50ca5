use mathlib.Core.Path.{◌∙◌}
use native.Mathlib.Omega.{arith}
use mathlib.Core.List.{[]}
use Rattle.grammar.proofs.Places.{text-inside}
use Rattle.conditions.proofs.Words.{not_none, word-other, word_on}
use Rattle.conditions.proofs.three_letters.Goals as goal

pub returns-then-text_at-a : goal.returns-then-text_at-a
returns-then-text_at-a c = λ kinds. word-other _ _ c.requires.0 _ (c.text_at.ensures kinds) c.if-text_at-a.true

pub overflow_add-at : goal.overflow_add-at
overflow_add-at c = let some = not_none _ c.requires.0 in let inside = text-inside [] _ _ _ (c.text_at.ensures []) (omega arith) in omega arith

pub returns : goal.returns
returns c = λ kinds. c.two_letters.ensures kinds ∙ word_on _ _ c.requires.0 kinds _ _ (c.text_at.ensures kinds) c.if-text_at-a.false
