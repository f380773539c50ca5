-- `put_signed` meets its contract: the sign, and then the four bytes. Assumes nothing.
use mathlib.Core.Path.{refl, ◌∙◌}
use native.Mathlib.Omega.{arith}
use lib.ListN.{length-set}
use Rattle.work_cells.proofs.Kept.{signed-written}
use Rattle.work_cells.proofs.put_signed.Goals as goal

pub put_four-requires : goal.put_four-requires
put_four-requires c = simp length-set (omega arith, c.requires.1)

pub shape_of-work : goal.shape_of-work
shape_of-work c = simp length-set at c.put_four.auto.out

pub returns : goal.returns
returns c = c.put_four.ensures ∙ signed-written _ _ _ _ _ refl
