-- `laying::add` meets its contract. Assumes nothing.
use Rattle.expand_laying.proofs.Fronts.{added}
use Rattle.expand_laying.proofs.add.Goals as goal

pub returns : goal.returns
returns c = added _ _ _ _ _ _ _ _ c.part.ensures c.copy_front.ensures c.both.ensures c.requires.0 c.requires.1
