-- `append` meets its contract. Assumes nothing.
use Rattle.value_texts.proofs.Cuts.{counted-only, written-to}
use Rattle.value_texts.proofs.append.Goals as goal

pub returns-then-size-le-STRING : goal.returns-then-size-le-STRING
returns-then-size-le-STRING c = written-to _ _ _ _ c.copy.ensures c.if-size-le-STRING.true c.requires.0

pub returns-else-size-le-STRING : goal.returns-else-size-le-STRING
returns-else-size-le-STRING c = counted-only _ _ _ c.if-size-le-STRING.false
