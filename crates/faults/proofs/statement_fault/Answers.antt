-- `faults::statement_fault` meets its contract. Assumes nothing.
use mathlib.Core.Path.{◌∙◌}
use Rattle.checking.specs.Body.{tables_of}
use Rattle.faults.proofs.Coding.{coded-here, ordered-here, short-here, end-here, fields-there, is-two, is_later}
use Rattle.faults.proofs.statement_fault.Goals as goal

pub returns-then-is_misplaced : goal.returns-then-is_misplaced
returns-then-is_misplaced c =
    let a = c.args in
    let t = tables_of a.tables in
    is-two a.line.now c.requires.0 t _ _ _ _ _ _ _ c.operation_of-operation.ensures c.word-word.ensures.statement c.is_misplaced.ensures c.if-is_misplaced.true

pub code_fields-codes-requires : goal.code_fields-codes-requires
code_fields-codes-requires c = let a = c.args in fields-there a.line.now c.requires.0 _ _ _ _ c.name_field-name.ensures c.operation_of-operation.ensures c.operand_field-operand.ensures c.requires.1.1

pub slice_bounds-statement-end : goal.slice_bounds-statement-end
slice_bounds-statement-end c =
    let a = c.args in
    let t = tables_of a.tables in
    end-here a.line.now c.requires.0 t _ _ _ _ _ _ _ c.name_field-name.ensures c.operation_of-operation.ensures c.operand_field-operand.ensures c.word-word.ensures.statement c.code_fields-codes.ensures.value c.code_fields-codes.ensures.code_after c.requires.1.1

pub coded_fault-requires : goal.coded_fault-requires
coded_fault-requires c =
    let a = c.args in
    let t = tables_of a.tables in
    (ordered-here a.line.now c.requires.0 t _ _ _ _ _ _ _ c.name_field-name.ensures c.operation_of-operation.ensures c.operand_field-operand.ensures c.word-word.ensures.statement c.code_fields-codes.ensures.value c.code_fields-codes.ensures.code_after c.requires.1.1, (c.requires.1.0, short-here a.line.now c.requires.0 t _ _ _ _ _ _ _ c.name_field-name.ensures c.operation_of-operation.ensures c.operand_field-operand.ensures c.word-word.ensures.statement c.code_fields-codes.ensures.value c.code_fields-codes.ensures.code_after c.requires.1.1))

pub returns : goal.returns
returns c =
    let a = c.args in
    let t = tables_of a.tables in
    c.coded_fault.ensures a.line.now (coded-here a.line.now c.requires.0 t _ _ _ _ _ _ _ c.name_field-name.ensures c.operation_of-operation.ensures c.operand_field-operand.ensures c.word-word.ensures.statement c.code_fields-codes.ensures.value c.code_fields-codes.ensures.code_after c.requires.1.1)
    ∙ is_later a.line.now c.requires.0 t _ _ _ _ _ _ _ c.operation_of-operation.ensures c.word-word.ensures.statement c.is_misplaced.ensures c.if-is_misplaced.false
