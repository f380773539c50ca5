-- `declaring::has_other_kind` meets its contract: one of the globals from row i on has another kind if any has. Assumes nothing.
use mathlib.Core.Path.{ap, sym, ◌∙◌}
use mathlib.Core.Bool.{not}
use Rattle.rules.specs.Form.{same_set}
use Rattle.kinds.specs.Kinds.{set_of}
use Rattle.names.proofs.Rows.{row_fits}
use Rattle.declaring.proofs.Tables.{same-told, other-all, other-done, other-stop, other-next}
use Rattle.declaring.proofs.has_other_kind.Goals as goal

pub loop-i-init : goal.loop-i-init
loop-i-init c =
    let a = c.args in
    other-all a.shared.now a.kinds.now a.name.now (set_of a.set)

pub name_at-row-requires : goal.name_at-row-requires
name_at-row-requires c = row_fits c.args.shared.now c.loop-i.i c.loop-i-test.true

pub returns-then-equal-ne : goal.returns-then-equal-ne
returns-then-equal-ne c =
    let a = c.args in
    sym (c.loop-i.invariant ∙ other-stop a.shared.now a.kinds.now a.name.now (set_of a.set) c.loop-i.i c.loop-i-test.true _ c.name_at-row.ensures _ c.byte.ensures c.equal.ensures (c.ne.ensures ∙ ap not (same-told c.set_numbered-held.result a.set ∙ ap (λ j. same_set j (set_of a.set)) c.set_numbered-held.ensures)) c.if-equal-ne.true)

pub loop-i-preserved : goal.loop-i-preserved
loop-i-preserved c =
    let a = c.args in
    c.loop-i.invariant ∙ other-next a.shared.now a.kinds.now a.name.now (set_of a.set) c.loop-i.i c.loop-i-test.true _ c.name_at-row.ensures _ c.byte.ensures c.equal.ensures (c.ne.ensures ∙ ap not (same-told c.set_numbered-held.result a.set ∙ ap (λ j. same_set j (set_of a.set)) c.set_numbered-held.ensures)) c.if-equal-ne.false

pub returns : goal.returns
returns c =
    let a = c.args in
    sym (c.loop-i.invariant ∙ other-done a.shared.now a.kinds.now a.name.now (set_of a.set) c.loop-i.i c.loop-i-test.false)
