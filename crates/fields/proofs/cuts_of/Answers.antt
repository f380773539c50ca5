-- `fields::cuts_of` meets its contract. Assumes nothing.
use Rattle.fields.proofs.Cut.{cuts_are}
use Rattle.fields.proofs.cuts_of.Goals as goal

pub returns : goal.returns
returns c =
    cuts_are c.args.line.now _ _ _ _ _ _ c.run_end-gap.ensures.value c.run_end-operation.ensures.value c.run_end-space.ensures.value c.run_end-operand.ensures.value
    c.holds_spaces-holds.ensures c.operand_end-remarks.ensures.value
