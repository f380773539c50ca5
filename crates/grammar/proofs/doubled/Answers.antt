use mathlib.Core.Path.{◌∙◌, sym, ap}
use mathlib.Core.List.{[]}
use native.Mathlib.Omega.{arith}
use Rattle.rules.specs.Grammar.{plain}
use Rattle.grammar.proofs.Places.{text-inside, toks-rest}
use Rattle.grammar.proofs.Quotes.{doubled-not, doubled-is}
use Rattle.grammar.proofs.doubled.Goals as goal

pub returns-then-text_at-ne39 : goal.returns-then-text_at-ne39
returns-then-text_at-ne39 c = λ kinds inner. doubled-not inner _ (c.text_at.ensures kinds) c.if-text_at-ne39.true

pub overflow_add-at : goal.overflow_add-at
overflow_add-at c = let inside = text-inside [] _ _ _ (c.text_at.ensures []) (omega arith) in omega arith

pub returns : goal.returns
returns c = λ kinds inner. doubled-is inner _ (c.text_at.ensures kinds) c.if-text_at-ne39.false (c.text_at-2.ensures kinds ∙ ap plain (sym (toks-rest kinds _ _)))
