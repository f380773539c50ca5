-- `numbered` meets its contract: by the rows, and there is no statement behind the last. Assumes nothing.
use Rattle.std.proofs.Common.{sym}
use Rattle.std.proofs.Math.ListN.{get_or-eq_default}
use Rattle.rules.specs.Statement.{statements, model}
use Rattle.words.proofs.Laws.{by-row}
use Rattle.words.proofs.numbered.Goals as goal

pub returns-then-number-ge16 : goal.returns-then-number-ge16
unfolding statements
returns-then-number-ge16 c = sym (get_or-eq_default statements model c.if-number-ge16.true)

pub returns : goal.returns
returns c = by-row c.args.number _ c.if-number-ge16.false
