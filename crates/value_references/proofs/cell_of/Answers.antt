use Prim.Native.Nat.{◌+◌, ◌*◌, ◌-◌, ◌≤◌, ◌<◌}
use mathlib.Core.Path.{◌≡◌, ap, ◌∙◌}
use native.Mathlib.Omega.{arith}
use Rattle.value_references.proofs.Standing.{shared-cell, own-cell}
use Rattle.value_references.proofs.cell_of.Goals as goal

pub returns-then-place-ge192 : goal.returns-then-place-ge192
returns-then-place-ge192 c = let e = c.from-place.ensures in let far = c.if-place-ge192.true in let low : 192 ≤ c.args.slot = omega arith in (ap (λ p. p - 192) e ∙ shared-cell c.args.f _ low, omega arith)

pub returns : goal.returns
returns c =
    let place = c.from-place.ensures in
    let depth = c.from.ensures in
    let params = c.from-2.ensures in
    let own = c.saturating_sub.ensures in
    let near = c.if-place-ge192.false in
    let below : c.args.slot < 192 = omega arith in
    let same : 16 * c.from.result + c.saturating_sub.result ≡ 16 * c.args.f.depth + (c.args.slot - 128 - c.args.f.params) = omega arith in
    let few = c.requires.0 in
    (same ∙ own-cell c.args.f _ below, omega arith)
