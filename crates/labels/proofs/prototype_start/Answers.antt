-- `labels::prototype_start` meets its contract: the operation is MACRO. Assumes nothing.
use Rattle.rules.specs.Library.{is_macro}
use Rattle.labels.specs.Searches.{is_operation, prototype_start}
use Rattle.labels.proofs.prototype_start.Goals as goal

pub returns : goal.returns
unfolding prototype_start is_operation is_macro
returns c = record { value = c.behind.ensures.value; lower_bound = c.behind.ensures.lower_bound }
