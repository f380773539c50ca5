-- `part` meets its contract: the three ways in which a part is cut. Assumes nothing.
use Rattle.spans.proofs.Cuts.{none_left, all_left, some_left}
use Rattle.spans.proofs.part.Goals as goal

pub returns-then-size-at : goal.returns-then-size-at
returns-then-size-at c = none_left _ _ _ c.if-size-at.true

pub returns-then-size-at-2 : goal.returns-then-size-at-2
returns-then-size-at-2 c = all_left _ _ _ c.if-size-at-2.true

pub returns : goal.returns
returns c = some_left _ _ _
