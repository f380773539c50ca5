-- `comparing::negated` meets its contract. Assumes nothing.
use Rattle.value_comparisons.proofs.Cutting.{negated-code}
use Rattle.value_comparisons.proofs.negated.Goals as goal

pub returns : goal.returns
returns c = negated-code _
