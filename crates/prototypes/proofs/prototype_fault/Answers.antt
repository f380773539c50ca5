-- `prototypes::prototype_fault` meets its contract: each return is the first test that holds, those before it being made and failed. Assumes nothing.
use mathlib.Core.Bool.{not}
use mathlib.Core.Path.{ap, sym, ◌∙◌}
use Rattle.rules.specs.Choice.{every}
use Rattle.rules.specs.Fields.{is_no_space, fields_of}
use Rattle.prototypes.proofs.Numbers.{first, second, third, fourth, fifth, none, empty-told, there-told}
use Rattle.prototypes.proofs.Parameters.{operation-spaceless, unplaced, operation-there, ill-told, past-told}
use Rattle.prototypes.proofs.prototype_fault.Goals as goal

pub returns-then-is_ill_written : goal.returns-then-is_ill_written
returns-then-is_ill_written c =
    let l = c.args.line.now in
    let one = sym c.is_ill_written.ensures ∙ c.if-is_ill_written.true in
    λ ts w h f. sym (first _ _ _ _ _ one)

pub returns-then-operation-eq0 : goal.returns-then-operation-eq0
returns-then-operation-eq0 c =
    let l = c.args.line.now in
    let one = sym c.is_ill_written.ensures ∙ c.if-is_ill_written.false in
    let two = unplaced l (empty-told c.operation_of-operation.ensures c.if-operation-eq0.true) in
    λ ts w h f. sym (second _ _ _ _ _ one two)

pub returns-then-has_bad_name : goal.returns-then-has_bad_name
returns-then-has_bad_name c =
    let l = c.args.line.now in
    let one = sym c.is_ill_written.ensures ∙ c.if-is_ill_written.false in
    let two = unplaced l (there-told c.operation_of-operation.ensures c.if-operation-eq0.false) in
    let n = sym c.name_field-name.ensures in
    let o = c.operation_of-operation.ensures in
    let a = sym c.operand_field-operand.ensures in
    λ ts w h f. sym (third _ _ _ _ _ one two (sym (c.has_bad_name.ensures ts (fields_of l) h f (ap (every is_no_space) o ∙ operation-spaceless l) n (operation-there l (there-told o c.if-operation-eq0.false) ∙ sym o) a) ∙ c.if-has_bad_name.true))

pub returns-then-not-is_good : goal.returns-then-not-is_good
returns-then-not-is_good c =
    let l = c.args.line.now in
    let one = sym c.is_ill_written.ensures ∙ c.if-is_ill_written.false in
    let two = unplaced l (there-told c.operation_of-operation.ensures c.if-operation-eq0.false) in
    let n = sym c.name_field-name.ensures in
    let o = c.operation_of-operation.ensures in
    let a = sym c.operand_field-operand.ensures in
    λ ts w h f. sym (fourth _ _ _ _ _ one two (sym (c.has_bad_name.ensures ts (fields_of l) h f (ap (every is_no_space) o ∙ operation-spaceless l) n (operation-there l (there-told o c.if-operation-eq0.false) ∙ sym o) a) ∙ c.if-has_bad_name.false) (ill-told l (c.is_good.ensures (fields_of l) n a) (ap not c.if-not-is_good.true)))

pub returns-then-has_too_many : goal.returns-then-has_too_many
returns-then-has_too_many c =
    let l = c.args.line.now in
    let one = sym c.is_ill_written.ensures ∙ c.if-is_ill_written.false in
    let two = unplaced l (there-told c.operation_of-operation.ensures c.if-operation-eq0.false) in
    let n = sym c.name_field-name.ensures in
    let o = c.operation_of-operation.ensures in
    let a = sym c.operand_field-operand.ensures in
    λ ts w h f. sym (fifth _ _ _ _ _ one two (sym (c.has_bad_name.ensures ts (fields_of l) h f (ap (every is_no_space) o ∙ operation-spaceless l) n (operation-there l (there-told o c.if-operation-eq0.false) ∙ sym o) a) ∙ c.if-has_bad_name.false) (ill-told l (c.is_good.ensures (fields_of l) n a) (ap not c.if-not-is_good.false)) (past-told l w _ _ (sym n) (sym a) c.has_too_many.ensures ∙ c.if-has_too_many.true))

pub returns : goal.returns
returns c =
    let l = c.args.line.now in
    let one = sym c.is_ill_written.ensures ∙ c.if-is_ill_written.false in
    let two = unplaced l (there-told c.operation_of-operation.ensures c.if-operation-eq0.false) in
    let n = sym c.name_field-name.ensures in
    let o = c.operation_of-operation.ensures in
    let a = sym c.operand_field-operand.ensures in
    λ ts w h f. sym (none _ _ _ _ _ one two (sym (c.has_bad_name.ensures ts (fields_of l) h f (ap (every is_no_space) o ∙ operation-spaceless l) n (operation-there l (there-told o c.if-operation-eq0.false) ∙ sym o) a) ∙ c.if-has_bad_name.false) (ill-told l (c.is_good.ensures (fields_of l) n a) (ap not c.if-not-is_good.false)) (past-told l w _ _ (sym n) (sym a) c.has_too_many.ensures ∙ c.if-has_too_many.false))
