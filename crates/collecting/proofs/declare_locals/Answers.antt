-- `declare_locals` meets its contract: the symbols in their rows, and their kind for each of them. Assumes nothing.
use Prim.Native.Nat.{ℕ, ◌-◌}
use native.Mathlib.Omega.{arith}
use mathlib.Core.Path.{◌≡◌, ap, ◌∙◌}
use lib.ListN.{length, replicate}
use Rattle.lent.specs.Splice.{splice}
use Rattle.declaring.specs.Declared.{symbols_in}
use Rattle.collecting.proofs.declare_locals.Goals as goal

pub returns : goal.returns
returns c =
    let a = c.args in
    let e = c.append_symbols-end.ensures in
    let n : c.append_symbols-end.result - a.rows ≡ length (symbols_in a.operand.now) = omega (arith, e.value) in
    record { value = e.value; own_after = e.table_after; kinds_after = c.fill.ensures ∙ ap (λ (m : ℕ). splice a.kinds.now a.rows (replicate m a.number)) n }
