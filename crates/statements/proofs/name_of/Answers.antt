-- `statements::name_of` meets its contract: the run of non-spaces at the start is the name. Assumes nothing.
use mathlib.Core.Path.{sym, ◌∙◌}
use Rattle.statements.proofs.Parts.{remark-name, name-cut}
use Rattle.statements.proofs.name_of.Goals as goal

pub returns-then-is_remark : goal.returns-then-is_remark
returns-then-is_remark c = remark-name _ (sym c.is_remark.ensures ∙ c.if-is_remark.true)

pub returns : goal.returns
returns c = name-cut _ (sym c.is_remark.ensures ∙ c.if-is_remark.false) _ c.run_end-end.ensures.value
