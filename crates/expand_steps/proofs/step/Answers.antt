-- `step` meets its contract: an open line, or a line of a body. Assumes nothing.
use native.Mathlib.Omega.{arith}
use Rattle.expand_steps.proofs.Deciding.{steps-body, steps-done, body-asks}
use Rattle.expand_steps.proofs.step.Goals as goal

pub returns-then-program-run : goal.returns-then-program-run
returns-then-program-run c = steps-done _ _ _ _ _ c.requires.0 _ c.if-run-eq0.true c.if-program-run.true c.stop.ensures

pub opens-requires : goal.opens-requires
opens-requires c = (c.requires.0, c.requires.1, c.requires.2, c.if-run-eq0.true, c.if-program-run.false)

pub returns-then-run-eq0 : goal.returns-then-run-eq0
returns-then-run-eq0 c = c.opens.ensures

pub body_step-requires : goal.body_step-requires
body_step-requires c = let a = body-asks _ _ _ c.requires.0 c.requires.2 _ c.tick.ensures (omega arith) in (a.0, c.requires.1, a.1, a.2, a.3, a.4)

pub returns : goal.returns
returns c = steps-body _ _ _ _ _ c.requires.0 _ _ _ (omega arith) _ c.tick.ensures c.body_step.ensures
