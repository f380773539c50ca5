-- `statements::is_remark` meets its contract: the first two bytes tell. Assumes nothing.
use mathlib.Core.Path.{◌∙◌}
use mathlib.Core.Bool.{◌&&◌, ◌||◌}
use lib.Dec.{eqb}
use Rattle.statements.proofs.Parts.{remark-is}
use Rattle.statements.proofs.is_remark.Goals as goal

pub returns : goal.returns
returns c =
    (λ i. eqb (c.byte-first.ensures i) 42 || (eqb (c.byte-first.ensures i) 46 && eqb (c.byte-second.ensures i) 42)) ∙ remark-is c.args.line.now
