use mathlib.Core.Path.{◌∙◌}
use native.Mathlib.Omega.{arith}
use Rattle.deck_reading.proofs.Runs.{two-from}
use Rattle.deck_reading.proofs.two_at.Goals as goal

pub returns : goal.returns
returns c = (two-from c.args.s.now c.args.at (c.from.ensures ∙ c.byte.ensures) (c.from-2.ensures ∙ c.byte-2.ensures) c.behind-rest.ensures, omega arith)
