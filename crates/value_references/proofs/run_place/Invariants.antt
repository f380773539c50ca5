use Prim.Native.Nat.{◌+◌, ◌*◌, ◌≤◌}
use mathlib.Core.Path.{◌≡◌}
use Rattle.value_references.specs.Referring.{run_place}
use Rattle.value_references.proofs.run_place.Given as goal

abbrev pub invariant-loop : goal.invariant-loop
invariant-loop l = (l.here ≡ run_place l.work l.at l.counter) × (l.here ≤ l.at + 256 * l.counter) × (l.counter ≤ l.n)
