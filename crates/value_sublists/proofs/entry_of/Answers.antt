-- `entry_of` meets its contract. Assumes nothing.
use mir.Facts.{to_z-of_z}
use Rattle.value_sublists.proofs.Divided.{found-none, found-some, part-within}
use Rattle.value_sublists.proofs.entry_of.Goals as goal

pub returns-in_err-part : goal.returns-in_err-part
returns-in_err-part c = rw c.from_residual.ensures (found-none c.args.s.now (rw (to_z-of_z c.ranges.n) at c.entry_place.ensures) c.in_err-part.was, tt)

pub returns : goal.returns
returns c = (found-some c.args.s.now (rw (to_z-of_z c.ranges.n) at c.entry_place.ensures) _ c.in_ok-part.was c.part.ensures, rw c.part.ensures (part-within c.args.s.now _ _))
