use mathlib.Core.Path.{◌≡◌}
use lib.ListN.{take}
use Rattle.expand_laying.specs.Solid.{solid}
use Rattle.expand_laying.proofs.solid_of.Given as goal

abbrev pub invariant-loop-at : goal.invariant-loop-at
invariant-loop-at l = solid l.s ≡ solid (take l.at l.s)
