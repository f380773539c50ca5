use Rattle.good_reading.proofs.Lexes.{text-small, text-none}
use Rattle.good_reading.proofs.text_of.Goals as goal

pub returns-then-c-lt-MARK : goal.returns-then-c-lt-MARK
returns-then-c-lt-MARK c = text-small _ c.if-c-lt-MARK.true

pub returns-else-c-lt-MARK : goal.returns-else-c-lt-MARK
returns-else-c-lt-MARK c = text-none _ c.if-c-lt-MARK.false
