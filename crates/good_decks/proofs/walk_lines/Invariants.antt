use mathlib.Core.Path.{◌≡◌}
use Rattle.good_decks.proofs.Walking.{Promised}
use Rattle.good_decks.proofs.walk_lines.Given as goal

abbrev pub invariant-loop : goal.invariant-loop
invariant-loop l =
    (l.seen.lines ≡ l.counter) × Promised l.deck l.kinds l.count l.counter l.seen l.place l.at
