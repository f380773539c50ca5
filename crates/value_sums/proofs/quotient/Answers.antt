use mir.Facts.{to_z-of_z}
use Rattle.value_sums.proofs.Range.{zero-divisor, other-divisor}
use Rattle.value_sums.proofs.quotient.Goals as goal

pub returns-then-b-eq0 : goal.returns-then-b-eq0
returns-then-b-eq0 c = zero-divisor _ _ c.ranges.b c.if-b-eq0.true

pub returns-else-b-eq0 : goal.returns-else-b-eq0
returns-else-b-eq0 c = other-divisor _ _ _ c.ranges.b c.if-b-eq0.false (simp (to_z-of_z c.ranges.a, to_z-of_z c.ranges.b) at c.checked_div.ensures)
