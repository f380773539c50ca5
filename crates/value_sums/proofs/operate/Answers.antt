use mathlib.Core.Path.{◌∙◌}
use native.Mathlib.Omega.{arith}
use mir.Facts.{to_z-of_z}
use Rattle.value_sums.proofs.Answers.{plus-is, minus_is, times-is, over-is}
use Rattle.value_sums.proofs.Range.{within-is}
use borrow.Author.Rules.{rules}
use Rattle.value_sums.proofs.operate.Goals as goal

pub returns-in-43 : goal.returns-in-43
returns-in-43 c = within-is _ _ (simp (to_z-of_z c.ranges.a, to_z-of_z c.ranges.b) at c.checked_add.ensures) ∙ plus-is _ _ _ c.in-43.is

pub returns-in-45 : goal.returns-in-45
returns-in-45 c = let e = c.in-45.is in within-is _ _ (simp (to_z-of_z c.ranges.a, to_z-of_z c.ranges.b) at c.checked_sub.ensures) ∙ minus_is _ _ _ (λ f. omega arith) e

pub returns-in-42 : goal.returns-in-42
returns-in-42 c = let e = c.in-42.is in within-is _ _ (simp (to_z-of_z c.ranges.a, to_z-of_z c.ranges.b) at c.checked_mul.ensures) ∙ times-is _ _ _ (λ f. omega arith) (λ f. omega arith) e

pub returns-in_default : goal.returns-in_default
returns-in_default c = let d = c.in_default in simp (to_z-of_z c.ranges.a, to_z-of_z c.ranges.b) at c.quotient.ensures ∙ over-is _ _ _ (search rules) (search rules) (search rules)
