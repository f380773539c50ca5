use native.Mathlib.Omega.{arith}
use Rattle.good_reading.proofs.Lexes.{last-text, last-mark, last-ref, last-lone}
use Rattle.good_reading.proofs.last_of.Goals as goal

pub returns-then-c-lt-MARK : goal.returns-then-c-lt-MARK
returns-then-c-lt-MARK c = last-text _ c.if-c-lt-MARK.true

pub returns-then-c-eq-MARK : goal.returns-then-c-eq-MARK
returns-then-c-eq-MARK c = last-mark _ c.if-c-eq-MARK.true

pub returns-then-c-lt-LEXEMES : goal.returns-then-c-lt-LEXEMES
returns-then-c-lt-LEXEMES c = last-ref c.args.c (omega (arith, c.if-c-eq-MARK.false)) c.if-c-lt-LEXEMES.true

pub returns-else-c-lt-LEXEMES : goal.returns-else-c-lt-LEXEMES
returns-else-c-lt-LEXEMES c = last-lone _ c.if-c-lt-LEXEMES.false
