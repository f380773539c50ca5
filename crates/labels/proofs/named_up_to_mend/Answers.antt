-- `labels::named_up_to_mend` meets its contract: the lines up to MEND are those before the body's end. Assumes nothing.
use mathlib.Core.Path.{◌∙◌}
use Rattle.labels.proofs.Targets.{named-in-body}
use Rattle.labels.proofs.named_up_to_mend.Goals as goal

pub returns : goal.returns
returns c = c.any_named.ensures ∙ named-in-body _ _ _ c.body_end-end.ensures.value
