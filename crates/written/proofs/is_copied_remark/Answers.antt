use mathlib.Core.Path.{ap, ◌∙◌}
use lib.Dec.{eqb}
use Rattle.written.proofs.Fronts.{copied_is}
use Rattle.written.proofs.is_copied_remark.Goals as goal

pub returns : goal.returns
returns c = ap (λ b. eqb b 42) c.byte.ensures ∙ copied_is c.args.line.now
