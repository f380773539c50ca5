-- `past_spaces` meets its contract. Assumes nothing.
use mathlib.Core.List.{[]}
use Rattle.value_comparisons.proofs.Answered.{spaces-same}
use Rattle.value_comparisons.proofs.past_spaces.Goals as goal

pub returns : goal.returns
returns c held = spaces-same held _ _ _ (c.past_spaces.ensures [])
