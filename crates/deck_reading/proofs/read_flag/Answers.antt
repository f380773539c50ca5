use mathlib.Core.Path.{sym}
use Rattle.deck_reading.proofs.Readers.{flag-bad, flag-read}
use Rattle.deck_reading.proofs.read_flag.Goals as goal

pub returns-then-byte-gt1 : goal.returns-then-byte-gt1
returns-then-byte-gt1 c = flag-bad _ _ (rw (sym c.byte.ensures) c.if-byte-gt1.true)

pub returns : goal.returns
returns c = flag-read _ _ _ c.reach.ensures (rw (sym c.byte.ensures) c.if-byte-gt1.false)
