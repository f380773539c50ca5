-- `leaves` meets its contract. Assumes nothing.
use Rattle.expand_steps.proofs.Acting.{leaving-told}
use Rattle.expand_steps.proofs.leaves.Goals as goal

pub returns : goal.returns
returns c = leaving-told c.args.run c.requires.1 c.requires.0 _ _ c.go_on.ensures c.leave-next.ensures
