use mathlib.Core.Path.{◌≡◌}
use Rattle.text.specs.Words.{place_among}
use Rattle.names.specs.Names.{name_in, names_in}
use Rattle.names.proofs.Rows.{from}
use Rattle.names.proofs.place.Given as goal

abbrev pub invariant-loop-k : goal.invariant-loop-k
invariant-loop-k l = place_among (names_in l.table) l.name ≡ from name_in l.table l.name l.k
