-- `comparing::both` meets its contract. Assumes nothing.
use Rattle.value_comparisons.proofs.Cutting.{both_code}
use Rattle.value_comparisons.proofs.both.Goals as goal

pub returns : goal.returns
returns c = both_code _ _
