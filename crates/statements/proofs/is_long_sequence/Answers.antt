-- `statements::is_long_sequence` meets its contract: the length of its sequence symbol tells. Assumes nothing.
use mathlib.Core.Path.{ap}
use lib.Dec.{ltb}
use Rattle.rules.specs.Lexemes.{is_long}
use Rattle.rules.specs.Faults.{is_long_sequence}
use Rattle.statements.proofs.is_long_sequence.Goals as goal

pub returns : goal.returns
unfolding is_long_sequence is_long
returns c = ap (ltb 7) c.symbol_length.ensures
