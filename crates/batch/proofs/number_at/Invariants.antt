use Prim.Native.Nat.{◌-◌, ◌≤◌}
use mathlib.Core.Path.{◌≡◌}
use lib.ListN.{length}
use Rattle.batch.specs.Format.{number_limit, number_at}
use Rattle.batch.proofs.Numbers.{onward}
use Rattle.batch.proofs.number_at.Given as goal

abbrev pub invariant-loop-n : goal.invariant-loop-n
invariant-loop-n l = (l.at ≤ l.i) × (l.n ≤ number_limit) × (number_at l.stop l.input l.at ≡ onward l.stop l.input l.at l.n l.i)

abbrev pub decreases-loop-n : goal.decreases-loop-n
decreases-loop-n l = length l.input - l.i
