-- `spends` meets its contract. Assumes nothing.
use Rattle.expand_steps.proofs.Acting.{spent-line}
use Rattle.expand_steps.proofs.spends.Goals as goal

pub returns : goal.returns
returns c = λ left. spent-line c.args.run c.requires.1 _ left c.stop.ensures
