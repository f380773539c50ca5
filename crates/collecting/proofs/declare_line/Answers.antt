-- `declare_line` meets its contract: a remark, a line that declares nothing, one that declares locals, one that declares globals. Assumes nothing.
use native.Mathlib.Omega.{arith}
use mathlib.Core.Path.{refl, ap, sym, ◌∙◌}
use Rattle.std.specs.Prelude.{Some}
use Rattle.rules.specs.Library.{locals_by, globals_by}
use Rattle.collecting.proofs.Places.{ordered}
use Rattle.collecting.proofs.Fits.{remark-declares, other-declare, full-declare, locals-fit, locals-declare, globals-fit, globals-declare}
use Rattle.collecting.proofs.declare_line.Goals as goal

pub returns-then-is_remark : goal.returns-then-is_remark
returns-then-is_remark c =
    let a = c.args in
    let whole = remark-declares a.line.now a.rows a.own.now a.global.now a.shared.now a.kinds.now (sym c.is_remark.ensures ∙ c.if-is_remark.true) in record { declares = whole.0; counted = whole.1 }

pub slice_bounds-word-count : goal.slice_bounds-word-count
slice_bounds-word-count c =
    let o = ordered c.args.line.now c.cuts_of-cuts.result c.cuts_of-cuts.ensures in
    o.operation-first

pub slice_bounds-word-start : goal.slice_bounds-word-start
slice_bounds-word-start c =
    let o = ordered c.args.line.now c.cuts_of-cuts.result c.cuts_of-cuts.ensures in
    o.operation-first

pub slice_bounds-word-end : goal.slice_bounds-word-end
slice_bounds-word-end c =
    let o = ordered c.args.line.now c.cuts_of-cuts.result c.cuts_of-cuts.ensures in
    omega (arith, o.operand-behind, o.remarks-behind, o.remarks-inside)

pub slice_bounds-operand-count : goal.slice_bounds-operand-count
slice_bounds-operand-count c =
    let o = ordered c.args.line.now c.cuts_of-cuts.result c.cuts_of-cuts.ensures in
    o.remarks-behind

pub slice_bounds-operand-start : goal.slice_bounds-operand-start
slice_bounds-operand-start c =
    let o = ordered c.args.line.now c.cuts_of-cuts.result c.cuts_of-cuts.ensures in
    o.remarks-behind

pub slice_bounds-operand-end : goal.slice_bounds-operand-end
slice_bounds-operand-end c =
    let o = ordered c.args.line.now c.cuts_of-cuts.result c.cuts_of-cuts.ensures in
    o.remarks-inside

pub returns-then-rows-eq64 : goal.returns-then-rows-eq64
returns-then-rows-eq64 c =
    let a = c.args in
    let r = sym c.is_remark.ensures ∙ c.if-is_remark.false in
    let k = c.cuts_of-cuts in
    let w = c.word-word in
    let arm = c.in-Some-Lcl in
    let is = arm.is ∙ ap Some (rw arm.is at arm.field-0-is) in
    let whole = full-declare a.line.now a.rows a.own.now a.global.now a.shared.now a.kinds.now k.result r k.ensures w.result w.ensures.number w.ensures.statement c.requires arm.set is c.if-rows-eq64.true in record { declares = whole.0; counted = whole.1 }

pub declare_locals-mine-requires : goal.declare_locals-mine-requires
declare_locals-mine-requires c =
    let a = c.args in
    let r = sym c.is_remark.ensures ∙ c.if-is_remark.false in
    let k = c.cuts_of-cuts in
    let w = c.word-word in
    let arm = c.in-Some-Lcl in
    let is = arm.is ∙ ap Some (rw arm.is at arm.field-0-is) in
    locals-fit a.line.now a.rows a.own.now a.global.now a.shared.now a.kinds.now k.result r k.ensures w.result w.ensures.number w.ensures.statement c.requires arm.set is c.if-rows-eq64.false

pub returns-else-rows-eq64 : goal.returns-else-rows-eq64
returns-else-rows-eq64 c =
    let a = c.args in
    let r = sym c.is_remark.ensures ∙ c.if-is_remark.false in
    let k = c.cuts_of-cuts in
    let w = c.word-word in
    let arm = c.in-Some-Lcl in
    let is = arm.is ∙ ap Some (rw arm.is at arm.field-0-is) in
    let e = c.declare_locals-mine.ensures in
    let whole = locals-declare a.line.now a.rows a.own.now a.global.now a.shared.now a.kinds.now k.result r k.ensures w.result w.ensures.number w.ensures.statement c.requires arm.set is _ _ _ _ c.number_of.ensures e.value e.own_after e.kinds_after in record { declares = whole.0; counted = whole.1 }

pub declare_globals-requires : goal.declare_globals-requires
declare_globals-requires c =
    let a = c.args in
    let r = sym c.is_remark.ensures ∙ c.if-is_remark.false in
    let k = c.cuts_of-cuts in
    let w = c.word-word in
    let arm = c.in-Some-Gbl in
    let is = arm.is ∙ ap Some (rw arm.is at arm.field-0-is) in
    globals-fit a.line.now a.rows a.own.now a.global.now a.shared.now a.kinds.now k.result r k.ensures w.result w.ensures.number w.ensures.statement c.requires arm.set is

pub returns-in-Some-Gbl : goal.returns-in-Some-Gbl
returns-in-Some-Gbl c =
    let a = c.args in
    let r = sym c.is_remark.ensures ∙ c.if-is_remark.false in
    let k = c.cuts_of-cuts in
    let w = c.word-word in
    let arm = c.in-Some-Gbl in
    let is = arm.is ∙ ap Some (rw arm.is at arm.field-0-is) in
    let e = c.declare_globals.ensures in
    let whole = globals-declare a.line.now a.rows a.own.now a.global.now a.shared.now a.kinds.now k.result r k.ensures w.result w.ensures.number w.ensures.statement c.requires arm.set is _ _ _ _ _ refl e.own_value.0 e.own_value.1.0 e.own_value.1.1 e.global_after e.adds in record { declares = whole.0; counted = whole.1 }

pub returns-in-Some-Macro : goal.returns-in-Some-Macro
unfolding locals_by globals_by
returns-in-Some-Macro c =
    let a = c.args in
    let k = c.cuts_of-cuts in
    let w = c.word-word in
    let arm = c.in-Some-Macro in
    let whole = other-declare a.line.now a.rows a.own.now a.global.now a.shared.now a.kinds.now k.result (sym c.is_remark.ensures ∙ c.if-is_remark.false) k.ensures w.result w.ensures.number w.ensures.statement (rw arm.is (rw (rw arm.is at arm.field-0-is) (refl, refl))) in record { declares = whole.0; counted = whole.1 }

pub returns-in-Some-Mend : goal.returns-in-Some-Mend
unfolding locals_by globals_by
returns-in-Some-Mend c =
    let a = c.args in
    let k = c.cuts_of-cuts in
    let w = c.word-word in
    let arm = c.in-Some-Mend in
    let whole = other-declare a.line.now a.rows a.own.now a.global.now a.shared.now a.kinds.now k.result (sym c.is_remark.ensures ∙ c.if-is_remark.false) k.ensures w.result w.ensures.number w.ensures.statement (rw arm.is (rw (rw arm.is at arm.field-0-is) (refl, refl))) in record { declares = whole.0; counted = whole.1 }

pub returns-in-Some-Mexit : goal.returns-in-Some-Mexit
unfolding locals_by globals_by
returns-in-Some-Mexit c =
    let a = c.args in
    let k = c.cuts_of-cuts in
    let w = c.word-word in
    let arm = c.in-Some-Mexit in
    let whole = other-declare a.line.now a.rows a.own.now a.global.now a.shared.now a.kinds.now k.result (sym c.is_remark.ensures ∙ c.if-is_remark.false) k.ensures w.result w.ensures.number w.ensures.statement (rw arm.is (rw (rw arm.is at arm.field-0-is) (refl, refl))) in record { declares = whole.0; counted = whole.1 }

pub returns-in-Some-Set : goal.returns-in-Some-Set
unfolding locals_by globals_by
returns-in-Some-Set c =
    let a = c.args in
    let k = c.cuts_of-cuts in
    let w = c.word-word in
    let arm = c.in-Some-Set in
    let whole = other-declare a.line.now a.rows a.own.now a.global.now a.shared.now a.kinds.now k.result (sym c.is_remark.ensures ∙ c.if-is_remark.false) k.ensures w.result w.ensures.number w.ensures.statement (rw arm.is (rw (rw arm.is at arm.field-0-is) (refl, refl))) in record { declares = whole.0; counted = whole.1 }

pub returns-in-Some-Aif : goal.returns-in-Some-Aif
unfolding locals_by globals_by
returns-in-Some-Aif c =
    let a = c.args in
    let k = c.cuts_of-cuts in
    let w = c.word-word in
    let arm = c.in-Some-Aif in
    let whole = other-declare a.line.now a.rows a.own.now a.global.now a.shared.now a.kinds.now k.result (sym c.is_remark.ensures ∙ c.if-is_remark.false) k.ensures w.result w.ensures.number w.ensures.statement (rw arm.is (rw (rw arm.is at arm.field-0-is) (refl, refl))) in record { declares = whole.0; counted = whole.1 }

pub returns-in-Some-Ago : goal.returns-in-Some-Ago
unfolding locals_by globals_by
returns-in-Some-Ago c =
    let a = c.args in
    let k = c.cuts_of-cuts in
    let w = c.word-word in
    let arm = c.in-Some-Ago in
    let whole = other-declare a.line.now a.rows a.own.now a.global.now a.shared.now a.kinds.now k.result (sym c.is_remark.ensures ∙ c.if-is_remark.false) k.ensures w.result w.ensures.number w.ensures.statement (rw arm.is (rw (rw arm.is at arm.field-0-is) (refl, refl))) in record { declares = whole.0; counted = whole.1 }

pub returns-in-Some-Anop : goal.returns-in-Some-Anop
unfolding locals_by globals_by
returns-in-Some-Anop c =
    let a = c.args in
    let k = c.cuts_of-cuts in
    let w = c.word-word in
    let arm = c.in-Some-Anop in
    let whole = other-declare a.line.now a.rows a.own.now a.global.now a.shared.now a.kinds.now k.result (sym c.is_remark.ensures ∙ c.if-is_remark.false) k.ensures w.result w.ensures.number w.ensures.statement (rw arm.is (rw (rw arm.is at arm.field-0-is) (refl, refl))) in record { declares = whole.0; counted = whole.1 }

pub returns-in-Some-Actr : goal.returns-in-Some-Actr
unfolding locals_by globals_by
returns-in-Some-Actr c =
    let a = c.args in
    let k = c.cuts_of-cuts in
    let w = c.word-word in
    let arm = c.in-Some-Actr in
    let whole = other-declare a.line.now a.rows a.own.now a.global.now a.shared.now a.kinds.now k.result (sym c.is_remark.ensures ∙ c.if-is_remark.false) k.ensures w.result w.ensures.number w.ensures.statement (rw arm.is (rw (rw arm.is at arm.field-0-is) (refl, refl))) in record { declares = whole.0; counted = whole.1 }

pub returns-in-None : goal.returns-in-None
unfolding locals_by globals_by
returns-in-None c =
    let a = c.args in
    let k = c.cuts_of-cuts in
    let w = c.word-word in
    let whole = other-declare a.line.now a.rows a.own.now a.global.now a.shared.now a.kinds.now k.result (sym c.is_remark.ensures ∙ c.if-is_remark.false) k.ensures w.result w.ensures.number w.ensures.statement (rw c.in-None.is (refl, refl)) in record { declares = whole.0; counted = whole.1 }
