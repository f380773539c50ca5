use mathlib.Core.Bool.{not, ◌||◌}
use mathlib.Core.Path.{◌∙◌}
use lib.Dec.{eqb}
use Rattle.good_reading.proofs.Endless.{plainly-starts}
use Rattle.good_reading.proofs.starts_plainly.Goals as goal

pub returns : goal.returns
returns c = (λ i. not (eqb (c.byte-first.ensures i) 46 || eqb (c.byte-first.ensures i) 42)) ∙ plainly-starts c.args.code.now
