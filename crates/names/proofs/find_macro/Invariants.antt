use Prim.Native.Nat.{◌≤◌, ◌-◌, ◌/◌}
use mathlib.Core.Path.{◌≡◌}
use lib.ListN.{length, take, drop}
use Rattle.text.specs.Bytes.{same}
use Rattle.text.specs.Words.{place_among}
use Rattle.names.specs.Names.{titles_in, padded}
use Rattle.names.proofs.Rows.{from}
use Rattle.names.proofs.Titles.{row}
use Rattle.names.proofs.find_macro.Given as goal

abbrev pub invariant-loop-i : goal.invariant-loop-i
invariant-loop-i l = (l.number ≡ l.initial.number) × (l.i ≤ 8) × (same (row l.table l.number) (padded l.name) ≡ same (drop l.i (row l.table l.number)) (drop l.i (padded l.name)))

abbrev pub decreases-loop-i : goal.decreases-loop-i
decreases-loop-i l = 8 - l.i

abbrev pub invariant-search : goal.invariant-search
invariant-search l = (l.number ≤ length l.table / 8) × (place_among (titles_in l.table) (padded l.name) ≡ from (take 8) l.table (padded l.name) l.number)

abbrev pub decreases-search : goal.decreases-search
decreases-search l = length l.table / 8 - l.number
