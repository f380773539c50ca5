-- `branches` meets its contract: a spent counter is refused. Assumes nothing.
use Rattle.expand_steps.proofs.Acting.{jumping, spent}
use Rattle.expand_steps.proofs.branches.Goals as goal

pub returns-then-is_spent : goal.returns-then-is_spent
returns-then-is_spent c = spent c.args.run c.requires.1 _ _ 0 _ _ c.top-level.ensures c.is_spent.ensures c.if-is_spent.true c.refuse.ensures

pub returns : goal.returns
returns c = jumping c.args.run c.requires.1 c.requires.0 _ _ c.go_on.ensures _ _ c.top-level.ensures c.with_top-next.ensures _ _ c.is_spent.ensures c.if-is_spent.false c.branch-level.ensures
