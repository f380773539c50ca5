use Rattle.parts.proofs.Divided.{left-at}
use Rattle.parts.proofs.Parts.at.Goals as goal

pub returns : goal.returns
returns c = left-at c.args.operand.now c.args.at _ c.get.ensures.lookup
