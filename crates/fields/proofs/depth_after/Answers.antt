use Prim.Native.Nat.{◌-◌}
use mathlib.Core.Path.{◌≡◌, sym, ◌∙◌}
use native.Mathlib.Omega.{arith}
use Rattle.fields.proofs.Depth.{in-quotes, opens, closes, stays}
use Rattle.fields.proofs.depth_after.Goals as goal

pub returns-then-seen : goal.returns-then-seen
returns-then-seen c = (sym (in-quotes _ _ c.if-seen.true), omega arith)

pub returns-then-c-eq40 : goal.returns-then-c-eq40
returns-then-c-eq40 c = (sym (opens _ _ c.if-seen.false c.if-c-eq40.true), omega arith)

pub returns-then-depth-eq0 : goal.returns-then-depth-eq0
returns-then-depth-eq0 c =
    let z : 0 ≡ c.args.seen.depth - 1 = omega (arith, c.if-depth-eq0.true) in
    (z ∙ sym (closes _ _ c.if-seen.false c.if-c-eq40.false c.if-c-eq41.true), omega arith)

pub returns-then-c-eq41 : goal.returns-then-c-eq41
returns-then-c-eq41 c = (sym (closes _ _ c.if-seen.false c.if-c-eq40.false c.if-c-eq41.true), omega arith)

pub returns : goal.returns
returns c = (sym (stays _ _ c.if-seen.false c.if-c-eq40.false c.if-c-eq41.false), omega arith)
