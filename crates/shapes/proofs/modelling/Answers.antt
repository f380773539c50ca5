-- `shapes::modelling` meets its contract. Assumes nothing.
use Rattle.shapes.proofs.Kept.{unnamed-model, named-model}
use Rattle.shapes.proofs.modelling.Goals as goal

pub returns-then-label : goal.returns-then-label
returns-then-label c = unnamed-model _ c.if-label.true

pub returns-else-label : goal.returns-else-label
returns-else-label c = named-model _ c.if-label.false
