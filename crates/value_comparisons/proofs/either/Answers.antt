-- `comparing::either` meets its contract. Assumes nothing.
use Rattle.value_comparisons.proofs.Cutting.{either-code}
use Rattle.value_comparisons.proofs.either.Goals as goal

pub returns : goal.returns
returns c = either-code _ _
