-- `shapes::branching_if` meets its contract. Assumes nothing.
use Rattle.shapes.proofs.Kept.{no-condition, condition}
use Rattle.shapes.proofs.branching_if.Goals as goal

pub returns-then-condition-eq0 : goal.returns-then-condition-eq0
returns-then-condition-eq0 c = no-condition _ _ _ c.min.ensures c.if-condition-eq0.true

pub returns-else-condition-eq0 : goal.returns-else-condition-eq0
returns-else-condition-eq0 c = condition _ _ _ c.min.ensures c.if-condition-eq0.false
