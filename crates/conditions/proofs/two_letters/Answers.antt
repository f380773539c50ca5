use mathlib.Core.Path.{◌∙◌}
use native.Mathlib.Omega.{arith}
use mathlib.Core.List.{[]}
use Rattle.grammar.proofs.Places.{text-inside}
use Rattle.conditions.proofs.Words.{not_none, word-other, word_on, word-ends}
use Rattle.conditions.proofs.two_letters.Goals as goal

pub returns-then-text_at-a : goal.returns-then-text_at-a
returns-then-text_at-a c = λ kinds. word-other _ _ c.requires.0 _ (c.text_at.ensures kinds) c.if-text_at-a.true

pub overflow_add-second : goal.overflow_add-second
overflow_add-second c = let some = not_none _ c.requires.0 in let inside = text-inside [] _ _ _ (c.text_at.ensures []) (omega arith) in omega arith

pub returns-then-text_at-b : goal.returns-then-text_at-b
returns-then-text_at-b c = λ kinds. word-other _ _ c.requires.1 _ (c.text_at-2.ensures kinds) c.if-text_at-b.true ∙ word_on _ _ c.requires.0 kinds _ _ (c.text_at.ensures kinds) c.if-text_at-a.false

pub overflow_add-second-2 : goal.overflow_add-second-2
overflow_add-second-2 c = let some = not_none _ c.requires.1 in let inside = text-inside [] _ _ _ (c.text_at-2.ensures []) (omega arith) in omega arith

pub returns : goal.returns
returns c = λ kinds. word-ends _ (c.text_at-3.ensures kinds) c.letter_or_digit.ensures ∙ word_on _ _ c.requires.1 kinds _ _ (c.text_at-2.ensures kinds) c.if-text_at-b.false ∙ word_on _ _ c.requires.0 kinds _ _ (c.text_at.ensures kinds) c.if-text_at-a.false
