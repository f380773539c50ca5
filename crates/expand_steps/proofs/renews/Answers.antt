-- `renews` meets its contract. Assumes nothing.
use Rattle.expand_steps.proofs.Acting.{renewing}
use Rattle.expand_steps.proofs.renews.Goals as goal

pub returns : goal.returns
returns c = renewing c.args.run c.requires.1 c.requires.0 _ _ c.go_on.ensures _ _ c.top-level.ensures c.with_top-next.ensures _ c.requires.2 c.renew.ensures
