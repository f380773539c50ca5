use mathlib.Core.Path.{◌≡◌}
use lib.ListN.{length}
use Rattle.rules.specs.Faults.{has_long_symbol}
use Rattle.declared.proofs.Unmarked.{text_lexed}
use Rattle.declared.proofs.has_long.Given as goal

abbrev pub invariant-loop-rest : goal.invariant-loop-rest
invariant-loop-rest l = has_long_symbol (text_lexed l.s) ≡ has_long_symbol (text_lexed l.rest)

abbrev pub decreases-loop-rest : goal.decreases-loop-rest
decreases-loop-rest l = length l.rest
