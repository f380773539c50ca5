use Rattle.written.proofs.Fronts.{operand-is}
use Rattle.written.proofs.operand_field.Goals as goal

pub returns : goal.returns
returns c =
    operand-is c.args.line.now _ _ _ _ _ _ c.run_end-gap.ensures.value c.run_end-operation.ensures.value c.run_end-space.ensures.value c.run_end-operand.ensures.value c.holds_spaces-holds.ensures c.operand_end-end.ensures.value
