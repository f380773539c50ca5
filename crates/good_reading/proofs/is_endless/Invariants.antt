use Prim.Native.Nat.{◌≤◌}
use mathlib.Core.Bool.{false}
use mathlib.Core.Path.{◌≡◌}
use Rattle.good_reading.proofs.Endless.{endless_from}
use Rattle.good_reading.proofs.is_endless.Given as goal

abbrev pub invariant-loop-c : goal.invariant-loop-c
invariant-loop-c l = (endless_from l.holds l.code 0 false 0 ≡ endless_from l.holds l.code l.c-index l.quoted l.depth) × (l.depth ≤ l.c-index)
