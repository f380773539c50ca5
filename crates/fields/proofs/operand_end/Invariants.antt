use Prim.Native.Nat.{◌+◌, ◌-◌, ◌≤◌}
use mathlib.Core.Path.{◌≡◌}
use lib.ListN.{length}
use Rattle.fields.specs.Cuts.{operand_end_at}
use Rattle.fields.proofs.Scan.{stops_from}
use Rattle.fields.proofs.operand_end.Given as goal

abbrev pub invariant-loop-i : goal.invariant-loop-i
invariant-loop-i l =
    (l.i ≤ l.at + (length l.line - l.at)) × (l.seen.depth ≤ l.i) × (operand_end_at l.holds l.line l.at ≡ stops_from l.holds l.line l.i l.seen)
