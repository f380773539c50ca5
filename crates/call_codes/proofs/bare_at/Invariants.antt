use Prim.Native.Nat.{◌+◌, ◌-◌, ◌≤◌}
use mathlib.Core.Path.{◌≡◌}
use lib.ListN.{length, drop}
use Rattle.call_codes.specs.Codes.{cut_at}
use Rattle.call_codes.proofs.Scanned.{stops_from}
use Rattle.call_codes.proofs.bare_at.Given as goal

abbrev pub invariant-loop-i : goal.invariant-loop-i
invariant-loop-i l = (l.seen.depth ≤ l.i) × (l.i ≤ l.at + (length l.code - l.at)) × (l.at + cut_at l.c (drop l.at l.code) ≡ stops_from l.c l.code l.i l.seen)
