use Prim.Native.Nat.{◌+◌, ◌-◌, ◌≤◌}
use mathlib.Core.Path.{◌≡◌}
use lib.ListN.{length, drop}
use Rattle.parts.specs.Parts.{bare_at}
use Rattle.parts.proofs.Scan.{stops_from}
use Rattle.parts.proofs.bare_at.Given as goal

abbrev pub invariant-loop-i : goal.invariant-loop-i
invariant-loop-i l =
    (l.seen.depth ≤ l.i) × (l.i ≤ l.at + (length l.s - l.at)) × (l.at + bare_at l.c (drop l.at l.s) ≡ stops_from l.c l.s l.i l.seen)
