-- `shapes::code_fields` meets its contract: three writes, one behind another. Assumes nothing.
use native.Mathlib.Omega.{arith}
use mathlib.Core.Path.{ap, ◌∙◌}
use mathlib.Core.Bool.{false}
use lib.ListN.{length}
use Rattle.lent.proofs.Writes.{splice-length}
use Rattle.shapes.proofs.Written.{code-short, fields-written, fields-end}
use Rattle.shapes.proofs.code_fields.Goals as goal

pub put_field-second-requires : goal.put_field-second-requires
put_field-second-requires c =
    let a = c.args in
    let e = c.put_field-first.ensures in
    omega (arith, e.value, code-short false a.names.own.now a.names.global.now a.names.shared.now a.name.now, ap length e.out_after ∙ splice-length _ _ _)

pub put_field-third-requires : goal.put_field-third-requires
put_field-third-requires c =
    let a = c.args in
    let e = c.put_field-first.ensures in
    let f = c.put_field-second.ensures in
    omega (
      arith,
      e.value,
      f.value,
      code-short false a.names.own.now a.names.global.now a.names.shared.now a.name.now,
      code-short false a.names.own.now a.names.global.now a.names.shared.now a.operation.now,
      ap length f.out_after ∙ (splice-length _ _ _ ∙ (ap length e.out_after ∙ splice-length _ _ _)),
    )

pub returns : goal.returns
returns c =
    let e = c.put_field-first.ensures in
    let f = c.put_field-second.ensures in
    let g = c.put_field-third.ensures in
    record { value = fields-end _ _ _ _ _ _ _ _ _ _ e.value f.value g.value e.out_after f.out_after g.out_after; code_after = fields-written _ _ _ _ _ _ _ _ _ _ e.value f.value g.value e.out_after f.out_after g.out_after }
