use native.Mathlib.Omega.{arith}
use Rattle.good_reading.proofs.Lexes.{reads-text, reads-mark, reads_other}
use Rattle.good_reading.proofs.is_read_at.Goals as goal

pub returns-then-c-lt-MARK : goal.returns-then-c-lt-MARK
returns-then-c-lt-MARK c = reads-text c.args.trail _ _ _ c.marks_here-marks.ensures c.if-c-lt-MARK.true _ c.letter_or_digit-lettered.ensures

pub returns-then-c-eq-MARK : goal.returns-then-c-eq-MARK
returns-then-c-eq-MARK c = reads-mark c.args.trail _ _ _ c.marks_here-marks.ensures c.if-c-eq-MARK.true

pub returns : goal.returns
returns c = reads_other c.args.trail c.args.c _ (omega (arith, c.if-c-eq-MARK.false))
