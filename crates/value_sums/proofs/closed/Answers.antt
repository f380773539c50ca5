use mathlib.Core.Path.{◌∙◌}
use mathlib.Core.List.{[]}
use native.Mathlib.Omega.{arith}
use Rattle.grammar.proofs.Places.{text-inside}
use Rattle.value_sums.proofs.Answers.{same-plain, closes, breaks}
use Rattle.value_sums.proofs.closed.Goals as goal

pub overflow_add-result : goal.overflow_add-result
overflow_add-result g c = let inside = text-inside [] _ _ _ (c.text_at.ensures []) (omega arith) in omega arith

pub returns-then-text_at-eq41 : goal.returns-then-text_at-eq41
returns-then-text_at-eq41 g c held = closes held _ _ _ _ (c.text_at.ensures [] ∙ same-plain [] held _ _) c.if-text_at-eq41.true

pub returns-else-text_at-eq41 : goal.returns-else-text_at-eq41
returns-else-text_at-eq41 g c held = breaks held _ _ _ _ (c.text_at.ensures [] ∙ same-plain [] held _ _) c.if-text_at-eq41.false
