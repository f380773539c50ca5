-- `labels::body_end` meets its contract: the operation is MEND. Assumes nothing.
use Rattle.rules.specs.Library.{is_mend}
use Rattle.labels.specs.Searches.{is_operation, body_end}
use Rattle.labels.proofs.body_end.Goals as goal

pub returns : goal.returns
unfolding body_end is_operation is_mend
returns c = record { value = c.behind.ensures.value; lower_bound = c.behind.ensures.lower_bound }
