use mathlib.Core.Path.{sym, ◌∙◌}
use Rattle.rules.specs.Fields.{fields_of}
use Rattle.good_tests.proofs.Texts.{text-ill, text-copied, text-dropped, text-statement, operation-there}
use Rattle.good_tests.proofs.is_text.Goals as goal

pub returns-then-is_ill_written : goal.returns-then-is_ill_written
returns-then-is_ill_written c = text-ill c.args.line.now (sym c.is_ill_written.ensures ∙ c.if-is_ill_written.true)

pub returns-then-is_copied_remark : goal.returns-then-is_copied_remark
returns-then-is_copied_remark c = text-copied c.args.line.now (sym c.is_ill_written.ensures ∙ c.if-is_ill_written.false) (sym c.is_copied_remark.ensures ∙ c.if-is_copied_remark.true)

pub returns-then-is_remark : goal.returns-then-is_remark
returns-then-is_remark c = text-dropped c.args.line.now (sym c.is_ill_written.ensures ∙ c.if-is_ill_written.false) (sym c.is_copied_remark.ensures ∙ c.if-is_copied_remark.false) (sym c.is_remark.ensures ∙ c.if-is_remark.true)

pub returns : goal.returns
returns c =
    let l = c.args.line.now in
    let r = sym c.is_remark.ensures ∙ c.if-is_remark.false in
    c.is_statement_text.ensures (fields_of l) (sym c.name_field-name.ensures) (operation-there l r c.operation_of-operation.ensures) (sym c.operand_field-operand.ensures)
    ∙ text-statement l (sym c.is_ill_written.ensures ∙ c.if-is_ill_written.false) (sym c.is_copied_remark.ensures ∙ c.if-is_copied_remark.false) r
