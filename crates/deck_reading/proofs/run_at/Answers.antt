use mathlib.Core.Path.{◌∙◌}
use Rattle.deck_reading.proofs.Places.{run-cut}
use Rattle.deck_reading.proofs.run_at.Goals as goal

pub returns : goal.returns
returns c = c.part.ensures ∙ run-cut _ _ _ _ c.behind_two.ensures c.two_at.ensures.0
