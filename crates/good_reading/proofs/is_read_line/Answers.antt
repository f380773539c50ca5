use mathlib.Core.Path.{◌∙◌}
use Rattle.good_reading.proofs.Lines.{same-b, read-models, read-branch, read-sets, read-counts, read_none}
use Rattle.good_reading.proofs.is_read_line.Goals as goal

pub returns-in-Models : goal.returns-in-Models
returns-in-Models c = let a = c.args in read-models a.does a.name.now a.operation.now a.operand.now c.in-Models.is c.is_word_field.ensures c.starts_plainly.ensures c.is_model_operation.ensures c.is_operand.ensures

pub returns-in-BranchesIf : goal.returns-in-BranchesIf
returns-in-BranchesIf c = let a = c.args in read-branch a.does a.name.now a.operation.now a.operand.now c.in-BranchesIf.is c.is_operand-in-BranchesIf.ensures

pub returns-in-Sets : goal.returns-in-Sets
returns-in-Sets c = let a = c.args in read-sets a.does a.name.now a.operation.now a.operand.now c.in-Sets.is (c.eq.ensures ∙ same-b c.in-Sets.set) c.is_operand-in-Sets.ensures

pub returns-in-Counts : goal.returns-in-Counts
returns-in-Counts c = let a = c.args in read-counts a.does a.name.now a.operation.now a.operand.now c.in-Counts.is c.is_operand-in-Counts.ensures

pub returns-in-Passes : goal.returns-in-Passes
returns-in-Passes c = let a = c.args in read_none a.does a.name.now a.operation.now a.operand.now c.in-Passes.is
