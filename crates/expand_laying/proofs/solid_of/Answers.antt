-- `laying::solid_of` meets its contract. Assumes nothing.
use mathlib.Core.Path.{ap, sym}
use native.Mathlib.Omega.{arith}
use lib.Seq.{take-length}
use Rattle.expand_laying.specs.Solid.{solid}
use Rattle.expand_laying.proofs.Solids.{solid-found, solid-on, solid-none}
use Rattle.expand_laying.proofs.solid_of.Goals as goal

pub loop-at-init : goal.loop-at-init
loop-at-init c = ap solid (sym (take-length _))

pub returns-then-s-at-ne32 : goal.returns-then-s-at-ne32
returns-then-s-at-ne32 c = omega (arith, solid-found _ _ c.loop-at.auto.at c.loop-at.invariant c.loop-at-test.true c.if-s-at-ne32.true)

pub loop-at-preserved : goal.loop-at-preserved
loop-at-preserved c = solid-on _ _ c.loop-at.auto.at c.loop-at.invariant c.loop-at-test.true c.if-s-at-ne32.false

pub returns : goal.returns
returns c = solid-none _ _ c.loop-at.auto.at c.loop-at.invariant (omega arith)
