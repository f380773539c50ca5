-- `frame_of` meets its contract. Assumes nothing.
use mathlib.Core.Path.{◌∙◌}
use Rattle.work_frames.proofs.Places.{frame_is}
use Rattle.work_frames.proofs.frame_of.Goals as goal

pub returns : goal.returns
returns c = frame_is _ _ c.index-index.ensures c.args.level c.args.depth _ _ (c.from.ensures ∙ c.byte.ensures) c.four_at.ensures.0
