-- `string_in` meets its contract. Assumes nothing.
use mathlib.Core.Path.{refl, ◌∙◌}
use native.Mathlib.Omega.{arith}
use Rattle.work_cells.proofs.Kept.{string-whole}
use Rattle.work_cells.proofs.string_in.Goals as goal

pub returns : goal.returns
returns c = c.part.ensures ∙ string-whole _ _ _ _ refl (c.from-n.ensures ∙ c.byte.ensures) (omega (arith, c.from-n.ensures, c.byte.type_inv))
