-- `refuses` meets its contract. Assumes nothing.
use Rattle.expand_steps.proofs.Acting.{refused-line}
use Rattle.expand_steps.proofs.refuses.Goals as goal

pub returns : goal.returns
returns c = λ left. refused-line c.args.run c.requires.1 _ _ _ left c.stop.ensures
