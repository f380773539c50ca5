use mathlib.Core.Path.{◌≡◌}
use lib.ListN.{length}
use Rattle.rules.specs.Choice.{every}
use Rattle.rules.specs.Lexemes.{is_plain}
use Rattle.declared.proofs.Unmarked.{text_lexed}
use Rattle.declared.proofs.is_plain.Given as goal

abbrev pub invariant-loop-rest : goal.invariant-loop-rest
invariant-loop-rest l = every is_plain (text_lexed l.s) ≡ every is_plain (text_lexed l.rest)

abbrev pub decreases-loop-rest : goal.decreases-loop-rest
decreases-loop-rest l = length l.rest
