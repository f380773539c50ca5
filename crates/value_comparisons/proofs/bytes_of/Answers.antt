-- `bytes_of` meets its contract. Assumes nothing.
use mathlib.Core.Path.{◌∙◌}
use Rattle.value_comparisons.proofs.Compared.{bytes-none, bytes-all}
use Rattle.value_comparisons.proofs.bytes_of.Goals as goal

pub returns-then-t : goal.returns-then-t
returns-then-t c = bytes-none _ _ c.if-t.true

pub returns-else-t : goal.returns-else-t
returns-else-t c = c.part.ensures ∙ bytes-all _ _ c.if-t.false
