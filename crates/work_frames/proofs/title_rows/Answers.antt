-- `title_rows` meets its contract. Assumes nothing.
use Rattle.work_frames.proofs.Places.{rows_are}
use Rattle.work_frames.proofs.title_rows.Goals as goal

pub returns : goal.returns
returns c = rows_are _ _ c.index-index.ensures _ _ _ _ c.two_at.ensures.0 c.two_at-count.ensures.0 c.part.ensures
