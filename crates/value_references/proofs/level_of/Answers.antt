use mathlib.Core.Path.{ap, ◌∙◌}
use Rattle.work_frames.specs.Layout.{level_at}
use Rattle.value_references.proofs.Standing.{level-part}
use Rattle.value_references.proofs.level_of.Goals as goal

pub returns : goal.returns
returns c = level-part _ _ _ _ (c.level_at.ensures ∙ ap level_at c.from.ensures) c.part.ensures
