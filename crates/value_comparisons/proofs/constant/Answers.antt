-- `constant` meets its contract. Assumes nothing.
use mathlib.Core.Path.{◌∙◌}
use mathlib.Core.List.{[]}
use Rattle.value_sums.proofs.Answers.{same-plain}
use Rattle.value_comparisons.proofs.Answered.{alone-same, constant-not, constant-is}
use Rattle.value_comparisons.proofs.constant.Goals as goal

pub returns-then-is_constant : goal.returns-then-is_constant
returns-then-is_constant c held nest inner = constant-is held _ nest inner _ _ (c.text_at-c.ensures [] ∙ same-plain [] held _ _) (alone-same held _ _ _ (c.alone.ensures [])) _ c.if-is_constant.true c.certain.ensures

pub returns-else-is_constant : goal.returns-else-is_constant
returns-else-is_constant c held nest inner = constant-not held _ nest inner _ _ (c.text_at-c.ensures [] ∙ same-plain [] held _ _) (alone-same held _ _ _ (c.alone.ensures [])) c.if-is_constant.false
