-- What a scan of a sublist has passed, and what its answers say. That the entries are 01's is proofs/. Assumes nothing.
use Rattle.std.specs.Prelude.{ℕ, ◌+◌, ◌-◌, Bool, ◌&&◌, not, List, [], eqb, length, get_or, Some, None}
use Rattle.std.specs.Prelude.{Option as Maybe}
use Rattle.std.specs.Borrow.{Bor}
use Rattle.std.proofs.Math.Option.{Option, none, some}
use Rattle.text.specs.Bytes.{Bytes}
use Rattle.rules.specs.Choice.{choose}
use Rattle.fields.specs.declared.Seen.{Seen as State}
use Rattle.spans.specs.Spans.{part_of as bytes_at}
use Rattle.value_sublists.specs.declared.Passed.{Passed}
use Rattle.value_sublists.specs.declared.Part.{Part}
use Rattle.value_sublists.specs.declared.Entries.{Entries}

-- the byte c is b, outside quotes and inside one pair of parentheses
unfoldable pub edges : State → ℕ → ℕ → Bool
edges s c b = eqb c b && not s.quoted && eqb s.depth 1

-- an entry ends at place i: it is the wanted one if n have ended before it
unfoldable pub ended : ℕ → ℕ → Passed → Passed
ended n i p =
    choose (eqb p.count n) (record { count = p.count + 1; start = i + 1; at = p.start; size = i - p.start })
    (record { count = p.count + 1; start = i + 1; at = p.at; size = p.size })

unfoldable pub passed_by : ℕ → ℕ → Bool → Passed → Passed
passed_by n i ends p = choose ends (ended n i p) p

-- the number of entries, and the wanted one
pub record Entry : Type 0 where
  pub count : ℕ
  pub wanted : Bytes

unfoldable pub cut_in : Bytes → Maybe Entries → Option Entry
cut_in s (Some e) = some (record { count = e.count; wanted = bytes_at s e.wanted.at e.wanted.size })
cut_in s None = none

unfoldable pub cut_by : ℕ → Option (List Bytes) → Option Entry
cut_by n none = none
cut_by n (some l) = some (record { count = length l; wanted = get_or l n [] })

-- the part of a text that was found, if any was
unfoldable pub part_in : Bytes → Maybe Part → Option Bytes
part_in s (Some p) = some (bytes_at s p.at p.size)
part_in s None = none

-- the text that was found, if any was
unfoldable pub part_of : Maybe (Bor Bytes) → Option Bytes
part_of (Some s) = some s.now
part_of None = none
