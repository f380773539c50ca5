-- `passes` meets its contract. Assumes nothing.
use Rattle.expand_steps.proofs.Acting.{passing}
use Rattle.expand_steps.proofs.passes.Goals as goal

pub returns : goal.returns
returns c = passing c.args.run c.requires.1 c.requires.0 _ _ c.go_on.ensures _ _ c.top-level.ensures c.with_top-next.ensures c.requires.2 c.advance.ensures
