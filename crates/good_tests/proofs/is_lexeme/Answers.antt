use Rattle.good_tests.proofs.Fields.{lexeme-text, lexeme-other}
use Rattle.good_tests.proofs.is_lexeme.Goals as goal

pub returns-then-c-lt-MARK : goal.returns-then-c-lt-MARK
returns-then-c-lt-MARK c = lexeme-text _ c.if-c-lt-MARK.true c.in_set.ensures

pub returns : goal.returns
returns c = lexeme-other _ c.if-c-lt-MARK.false
