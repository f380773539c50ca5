use mathlib.Core.Path.{◌≡◌}
use lib.ListN.{drop}
use Rattle.rules.specs.Values.{decimal}
use Rattle.answers.specs.Answers.{decimal_of}
use Rattle.answers.proofs.put_digits.Given as goal

abbrev pub invariant-loop-i : goal.invariant-loop-i
invariant-loop-i l = decimal l.i l.rest (drop l.i l.bytes) ≡ decimal_of l.n
