use native.Mathlib.Omega.{arith}
use Rattle.good_reading.proofs.Lexes.{front-text, front-mark, front-other}
use Rattle.good_reading.proofs.front_of.Goals as goal

pub returns-then-c-lt-MARK : goal.returns-then-c-lt-MARK
returns-then-c-lt-MARK c = front-text _ c.if-c-lt-MARK.true

pub returns-then-c-eq-MARK : goal.returns-then-c-eq-MARK
returns-then-c-eq-MARK c = front-mark _ c.if-c-eq-MARK.true

pub returns-else-c-eq-MARK : goal.returns-else-c-eq-MARK
returns-else-c-eq-MARK c = front-other c.args.c (omega (arith, c.if-c-eq-MARK.false))
