-- `comparing::certain` meets its contract. Assumes nothing.
use Rattle.value_comparisons.proofs.Cutting.{certain-code}
use Rattle.value_comparisons.proofs.certain.Goals as goal

pub returns : goal.returns
returns c = certain-code _
