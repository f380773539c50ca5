use Rattle.std.proofs.Common.{◌≡◌, ◌+◌, ◌-◌, ◌≤◌, length}
use Rattle.decks.specs.Decks.{macros_at}
use Rattle.decks.proofs.Outside.{Outside}
use Rattle.decks.proofs.macro_count.Given as goal

abbrev pub invariant-loop-found : goal.invariant-loop-found
invariant-loop-found l = record {
  few : l.count ≤ l.at;
  outside : Outside l.library l.at;
  all : length (macros_at l.library 0) ≡ l.count + length (macros_at l.library l.at);
}

abbrev pub decreases-loop-found : goal.decreases-loop-found
decreases-loop-found l = length l.library - l.at
