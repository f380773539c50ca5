use Prim.Native.Nat.{◌≤◌, ◌<◌}
use native.Mathlib.Omega.{arith}
use mathlib.Core.Path.{refl, sym, ◌∙◌}
use lib.ListN.{length}
use Rattle.good_reading.proofs.Endless.{endless-start, endless-end, endless-stop, endless-on}
use Rattle.good_reading.proofs.is_endless.Goals as goal

pub loop-c-init : goal.loop-c-init
loop-c-init c = (refl, omega arith)

pub returns-then-ends_at : goal.returns-then-ends_at
returns-then-ends_at c =
    let h : c.loop-c.c-index < length c.args.code.now = c.loop-c-test.true in
    sym (endless-start _ _ ∙ (c.loop-c.invariant.0 ∙ endless-stop _ _ c.loop-c.c-index _ _ h c.text_of-text.ensures (sym c.ends_at.ensures ∙ c.if-ends_at.true)))

pub depth_after-depth-requires : goal.depth_after-depth-requires
depth_after-depth-requires c = omega (arith, c.loop-c.invariant.1)

pub loop-c-preserved : goal.loop-c-preserved
loop-c-preserved c =
    let h : c.loop-c.c-index < length c.args.code.now = c.loop-c-test.true in
    (c.loop-c.invariant.0 ∙ endless-on _ _ c.loop-c.c-index _ _ h c.text_of-text.ensures (sym c.ends_at.ensures ∙ c.if-ends_at.false) c.quoted_after-quoted.ensures c.depth_after-depth.ensures.0, omega (arith, c.depth_after-depth.ensures.1, c.loop-c.invariant.1))

pub returns : goal.returns
returns c =
    let h : length c.args.code.now ≤ c.loop-c.c-index = omega (arith, c.loop-c-test.false) in
    sym (endless-start _ _ ∙ (c.loop-c.invariant.0 ∙ endless-end _ _ c.loop-c.c-index _ _ h))
