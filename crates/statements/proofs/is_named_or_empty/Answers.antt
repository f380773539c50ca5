-- `statements::is_named_or_empty` meets its contract: by cases on the length. Assumes nothing.
use mathlib.Core.Path.{◌∙◌}
use Rattle.statements.proofs.Parts.{empty-or, named-or}
use Rattle.statements.proofs.is_named_or_empty.Goals as goal

pub returns-then-name-eq0 : goal.returns-then-name-eq0
returns-then-name-eq0 c = empty-or _ c.if-name-eq0.true

pub returns : goal.returns
returns c = c.is_sequence.ensures ∙ named-or _ c.if-name-eq0.false
