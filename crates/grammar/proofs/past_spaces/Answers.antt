use mathlib.Core.Path.{refl, sym, ap, ◌∙◌}
use mathlib.Core.List.{[]}
use native.Mathlib.Omega.{arith}
use Rattle.rules.specs.Grammar.{past_spaces}
use Rattle.grammar.proofs.Places.{text-step, text-inside}
use Rattle.grammar.proofs.Spaces.{spaces-more, spaces-end}
use Rattle.grammar.proofs.past_spaces.Goals as goal

pub loop-here-init : goal.loop-here-init
loop-here-init c = λ kinds. refl

pub returns : goal.returns
returns c = λ kinds. spaces-end _ (c.text_at.ensures kinds) c.loop-here-test.false ∙ c.loop-here.invariant kinds

pub overflow_add-here : goal.overflow_add-here
overflow_add-here c = let inside = text-inside [] _ _ _ (c.text_at.ensures []) (omega arith) in omega arith

pub loop-here-smaller : goal.loop-here-smaller
loop-here-smaller c = let inside = text-inside [] _ _ _ (c.text_at.ensures []) (omega arith) in omega arith

pub loop-here-preserved : goal.loop-here-preserved
loop-here-preserved c = λ kinds. sym (ap past_spaces (text-step kinds _ _ _ (c.text_at.ensures kinds) (omega arith)) ∙ spaces-more _ _ c.loop-here-test.true) ∙ c.loop-here.invariant kinds
