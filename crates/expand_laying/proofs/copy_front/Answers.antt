-- `laying::copy_front` meets its contract. Assumes nothing.
use mathlib.Core.Path.{ap, ◌∙◌}
use Rattle.lent.specs.Splice.{splice}
use Rattle.expand_laying.proofs.Fronts.{none_written, part-fits}
use Rattle.expand_laying.proofs.copy_front.Goals as goal

pub copy-requires : goal.copy-requires
copy-requires c = part-fits _ _ _ _ _ c.part.ensures c.if-at-limit.true c.requires

pub returns-then-at-limit : goal.returns-then-at-limit
returns-then-at-limit c = c.copy.ensures ∙ ap (splice _ _) c.part.ensures

pub returns-else-at-limit : goal.returns-else-at-limit
returns-else-at-limit c = none_written _ _ _ _ c.if-at-limit.false
