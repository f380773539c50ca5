use native.Mathlib.Omega.{arith}
use Prim.Native.Nat.{◌≤◌, ◌<◌}
use mathlib.Core.Path.{refl, sym, ◌∙◌}
use lib.ListN.{length}
use Rattle.good_reading.specs.Trails.{no_trail}
use Rattle.good_reading.proofs.Along.{read-start, read-end, read-stop, read_next}
use Rattle.good_reading.proofs.is_field.Goals as goal

pub loop-i-init : goal.loop-i-init
unfolding no_trail
loop-i-init c = refl

pub returns-then-not-reads : goal.returns-then-not-reads
returns-then-not-reads c =
    let h : c.loop-i.i < length c.args.code.now = c.loop-i-test.true in
    sym (read-start _ _ ∙ c.loop-i.invariant ∙ read-stop _ _ c.loop-i.i c.loop-i.trail h refl c.byte.ensures (sym c.reads.ensures ∙ c.if-not-reads.true))

pub loop-i-preserved : goal.loop-i-preserved
loop-i-preserved c =
    let h : c.loop-i.i < length c.args.code.now = c.loop-i-test.true in
    (c.loop-i.invariant ∙ read_next _ _ c.loop-i.i c.loop-i.trail h refl c.byte.ensures (sym c.reads.ensures ∙ c.if-not-reads.false) c.trail_after-trail.ensures)

pub returns : goal.returns
returns c =
    let h : length c.args.code.now ≤ c.loop-i.i = omega (arith, c.loop-i-test.false) in
    sym (read-start _ _ ∙ c.loop-i.invariant ∙ read-end _ _ c.loop-i.i c.loop-i.trail h)
