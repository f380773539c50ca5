-- `statements::operation_of` meets its contract: the second run of non-spaces is the operation. Assumes nothing.
use mathlib.Core.Path.{sym, ◌∙◌}
use Rattle.statements.proofs.Parts.{remark-operation, operation-cut}
use Rattle.statements.proofs.operation_of.Goals as goal

pub returns-then-is_remark : goal.returns-then-is_remark
returns-then-is_remark c = remark-operation _ (sym c.is_remark.ensures ∙ c.if-is_remark.true)

pub returns : goal.returns
returns c =
    operation-cut _ (sym c.is_remark.ensures ∙ c.if-is_remark.false) _ _ _ c.run_end-gap.ensures.value c.run_end-start.ensures.value c.run_end-end.ensures.value
