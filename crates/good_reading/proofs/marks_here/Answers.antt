use mathlib.Core.Path.{◌∙◌}
use Rattle.good_reading.specs.Trails.{before_of}
use Rattle.good_reading.proofs.Lexes.{marks-by}
use Rattle.good_reading.proofs.marks_here.Goals as goal

pub returns : goal.returns
unfolding before_of
returns c = c.is_mark.ensures ∙ marks-by c.args.trail _ _ c.front_of-front.ensures
