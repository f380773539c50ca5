-- `is_formed_line` meets its contract. Assumes nothing.
use Rattle.good_forms.proofs.Forms.{line-formed}
use Rattle.good_forms.proofs.is_formed_line.Goals as goal

pub returns : goal.returns
returns c = line-formed _ _ _ _ _ _ _ c.run_at-name.ensures c.run_at-operation.ensures c.run_at-operand.ensures c.is_formed.ensures
