-- `checking::declares_badly` meets its contract. Assumes nothing.
use mathlib.Core.Bool.{true, ◌||◌}
use Rattle.checking.proofs.declares_badly.Goals as goal

pub returns : goal.returns
returns c = λ i. c.has_long-long.ensures true i || c.declares_wrongly-wrong.ensures i
