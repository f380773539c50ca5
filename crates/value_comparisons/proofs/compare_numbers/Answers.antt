-- `comparing::compare_numbers` meets its contract. Assumes nothing.
use mir.Facts.{to_z-of_z}
use Rattle.value_comparisons.proofs.Compared.{numbers-code}
use Rattle.value_comparisons.proofs.compare_numbers.Goals as goal

pub returns : goal.returns
returns c = numbers-code _ _ _ _ _ c.certain.ensures c.holds.ensures (simp (to_z-of_z c.ranges.a, to_z-of_z c.ranges.b) at c.number_order.ensures)
