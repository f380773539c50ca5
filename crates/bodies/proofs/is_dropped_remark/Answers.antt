-- `bodies::is_dropped_remark` meets its contract: the first two bytes tell. Assumes nothing.
use mathlib.Core.Path.{◌∙◌}
use mathlib.Core.Bool.{◌&&◌}
use lib.Dec.{eqb}
use Rattle.bodies.proofs.Written.{dropped-is}
use Rattle.bodies.proofs.is_dropped_remark.Goals as goal

pub returns : goal.returns
returns c = (λ i. eqb (c.byte-first.ensures i) 46 && eqb (c.byte-second.ensures i) 42) ∙ dropped-is c.args.line.now
