use mathlib.Core.Bool.{◌&&◌, ◌||◌, not}
use lib.Dec.{eqb}
use Rattle.good_reading.specs.Trails.{reads_by}
use Rattle.good_reading.proofs.reads.Goals as goal

pub returns : goal.returns
unfolding reads_by
returns c = λ i. c.is_read_at.ensures i && (not c.args.trail.odd || eqb (c.text_of-text.ensures i) 38)
