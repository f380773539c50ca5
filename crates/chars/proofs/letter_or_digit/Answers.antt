-- `letter_or_digit` meets its contract: what its two callees ensure. Assumes nothing.
use mathlib.Core.Path.{sym}
use Rattle.text.specs.Characters.{letter_or_digit}
use Rattle.chars.proofs.letter_or_digit.Goals as goal

pub returns-then-letter : goal.returns-then-letter
unfolding letter_or_digit
returns-then-letter c = rw (sym c.letter.ensures, c.if-letter.true)

pub returns-else-letter : goal.returns-else-letter
unfolding letter_or_digit
returns-else-letter c = rw (sym c.letter.ensures, c.if-letter.false) c.digit.ensures
