-- `keep_string` meets its contract: the length, and then the bytes. Assumes nothing.
use mathlib.Core.Path.{refl, ◌∙◌}
use native.Mathlib.Omega.{arith}
use lib.ListN.{length-set}
use Rattle.work_cells.proofs.Kept.{string-written}
use Rattle.work_cells.proofs.keep_string.Goals as goal

pub copy-requires : goal.copy-requires
copy-requires c = simp length-set (omega arith)

pub shape_of-work : goal.shape_of-work
shape_of-work c = simp length-set at c.copy.auto.out

pub returns : goal.returns
returns c = c.copy.ensures ∙ string-written _ _ _ _ refl
