-- `prototypes::outer_fault` meets its contract: a line that is no MACRO line is only out of place or good, a MACRO line has the other tests. Assumes nothing.
use native.Mathlib.Omega.{arith}
use mathlib.Core.Path.{sym, ◌∙◌}
use mathlib.Core.Bool.{false}
use Rattle.prototypes.proofs.Numbers.{first, second, third, fourth, fifth, none, empty-told, there-told, outer-placed, outer-unnamed, outer-formed, outer-within, macro-placed, macro-named, macro-formed, macro-past, macro-within}
use Rattle.prototypes.proofs.outer_fault.Goals as goal

pub returns-then-is_ill_written : goal.returns-then-is_ill_written
returns-then-is_ill_written c =
    λ w e ls. sym (first _ _ _ _ _ (sym c.is_ill_written.ensures ∙ c.if-is_ill_written.true))

pub returns-then-operation-eq0 : goal.returns-then-operation-eq0
returns-then-operation-eq0 c =
    let l = c.args.line.now in
    let one = sym c.is_ill_written.ensures ∙ c.if-is_ill_written.false in
    let m = sym c.is_macro.ensures ∙ c.if-not-is_macro.true in
    λ w e ls. sym (none _ _ _ _ _ one (outer-placed w l ls m (empty-told c.operation_of-operation.ensures c.if-operation-eq0.true)) (outer-unnamed w l ls m) (outer-formed w l ls m) (outer-within w l ls m))

pub returns-then-not-is_macro : goal.returns-then-not-is_macro
returns-then-not-is_macro c =
    let l = c.args.line.now in
    let one = sym c.is_ill_written.ensures ∙ c.if-is_ill_written.false in
    let m = sym c.is_macro.ensures ∙ c.if-not-is_macro.true in
    λ w e ls. sym (second _ _ _ _ _ one (outer-placed w l ls m (there-told c.operation_of-operation.ensures c.if-operation-eq0.false)))

pub returns-then-sequence-long : goal.returns-then-sequence-long
returns-then-sequence-long c =
    let l = c.args.line.now in
    let one = sym c.is_ill_written.ensures ∙ c.if-is_ill_written.false in
    let m = sym c.is_macro.ensures ∙ c.if-not-is_macro.false in
    λ w e ls. sym (third _ _ _ _ _ one (macro-placed w l ls m) (macro-named w l ls m c.name_field-name.ensures c.is_long_sequence-sequence.ensures (c.has_long-long.ensures false) ∙ c.if-sequence-long.true))

pub returns-then-name-ne0 : goal.returns-then-name-ne0
returns-then-name-ne0 c =
    let l = c.args.line.now in
    let one = sym c.is_ill_written.ensures ∙ c.if-is_ill_written.false in
    let m = sym c.is_macro.ensures ∙ c.if-not-is_macro.false in
    λ w e ls. sym (fourth _ _ _ _ _ one (macro-placed w l ls m) (macro-named w l ls m c.name_field-name.ensures c.is_long_sequence-sequence.ensures (c.has_long-long.ensures false) ∙ c.if-sequence-long.false) (macro-formed w l ls m (there-told c.name_field-name.ensures c.if-name-ne0.true)))

pub returns-then-macros-ge32 : goal.returns-then-macros-ge32
returns-then-macros-ge32 c =
    let l = c.args.line.now in
    let one = sym c.is_ill_written.ensures ∙ c.if-is_ill_written.false in
    let m = sym c.is_macro.ensures ∙ c.if-not-is_macro.false in
    λ w e ls. sym (fifth _ _ _ _ _ one (macro-placed w l ls m) (macro-named w l ls m c.name_field-name.ensures c.is_long_sequence-sequence.ensures (c.has_long-long.ensures false) ∙ c.if-sequence-long.false) (macro-formed w l ls m (empty-told c.name_field-name.ensures c.if-name-ne0.false)) (macro-past w l ls m (omega (arith, e, c.if-macros-ge32.true))))

pub returns : goal.returns
returns c =
    let l = c.args.line.now in
    let one = sym c.is_ill_written.ensures ∙ c.if-is_ill_written.false in
    let m = sym c.is_macro.ensures ∙ c.if-not-is_macro.false in
    λ w e ls. sym (none _ _ _ _ _ one (macro-placed w l ls m) (macro-named w l ls m c.name_field-name.ensures c.is_long_sequence-sequence.ensures (c.has_long-long.ensures false) ∙ c.if-sequence-long.false) (macro-formed w l ls m (empty-told c.name_field-name.ensures c.if-name-ne0.false)) (macro-within w l ls m (omega (arith, e, c.if-macros-ge32.false))))
