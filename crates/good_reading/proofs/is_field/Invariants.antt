use mathlib.Core.Path.{◌≡◌}
use Rattle.good_reading.specs.Trails.{no_trail}
use Rattle.good_reading.proofs.Along.{read_from}
use Rattle.good_reading.proofs.is_field.Given as goal

abbrev pub invariant-loop-i : goal.invariant-loop-i
invariant-loop-i l = read_from l.quotes l.code 0 no_trail ≡ read_from l.quotes l.code l.i l.trail
