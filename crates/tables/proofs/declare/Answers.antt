-- `declare` meets its contract: the length byte and then the name are one row. Assumes nothing.
use native.Mathlib.Omega.{arith}
use mathlib.Core.Path.{ap, ◌∙◌}
use lib.ListN.{length, length-set}
use Rattle.lent.proofs.Writes.{splice-length, splice-cons}
use Rattle.tables.proofs.declare.Goals as goal

pub copy-requires : goal.copy-requires
copy-requires c = simp length-set (omega arith)

pub shape_of-table : goal.shape_of-table
shape_of-table c = ap length c.copy.ensures ∙ (splice-length _ _ _ ∙ (simp length-set))

pub returns : goal.returns
returns c = c.copy.ensures ∙ splice-cons _ _ _ _
