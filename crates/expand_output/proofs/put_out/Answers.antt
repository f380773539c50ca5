-- `put_out` meets its contract: the line and its newline, or nothing. Assumes nothing.
use mathlib.Core.Path.{refl}
use Rattle.expand_output.proofs.Laid.{line-written, line-left, put-to, put-not}
use Rattle.expand_output.proofs.put_out.Goals as goal

pub returns-then-out-pos : goal.returns-then-out-pos
returns-then-out-pos c = (put-not _ _ _ c.if-out-pos.true, line-left _ _ _ c.if-out-pos.true)

pub returns : goal.returns
returns c = (put-to _ _ _ c.if-out-pos.false, line-written _ _ _ _ _ c.copy.ensures refl c.if-out-pos.false)
