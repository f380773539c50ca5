use mathlib.Core.Path.{◌∙◌}
use mathlib.Core.Bool.{◌&&◌}
use Rattle.grammar.specs.Tokens.{toks_at}
use Rattle.forms.proofs.Lines.{formed-for, formed-always}
use Rattle.forms.proofs.is_formed.Goals as goal

pub returns-in-Models : goal.returns-in-Models
returns-in-Models c = let a = c.args in λ d e. (λ i. c.is_text.ensures i && (c.is_text-in-Models.ensures i && c.is_text-in-Models-2.ensures i)) ∙ formed-for a.nest (toks_at a.kinds.now a.name.now 0) (toks_at a.kinds.now a.operation.now 0) (toks_at a.kinds.now a.operand.now 0) c.in-Models.is d e

pub returns-in-BranchesIf : goal.returns-in-BranchesIf
returns-in-BranchesIf c = let a = c.args in λ d e. c.is_condition.ensures ∙ formed-for a.nest (toks_at a.kinds.now a.name.now 0) (toks_at a.kinds.now a.operation.now 0) (toks_at a.kinds.now a.operand.now 0) c.in-BranchesIf.is d e

pub returns-in-Counts : goal.returns-in-Counts
returns-in-Counts c = let a = c.args in λ d e. c.is_arithmetic.ensures ∙ formed-for a.nest (toks_at a.kinds.now a.name.now 0) (toks_at a.kinds.now a.operation.now 0) (toks_at a.kinds.now a.operand.now 0) c.in-Counts.is d e

pub returns-in-Sets : goal.returns-in-Sets
returns-in-Sets c = let a = c.args in λ d e. (λ i. c.is_named_by.ensures i && c.is_operand_of.ensures i) ∙ formed-for a.nest (toks_at a.kinds.now a.name.now 0) (toks_at a.kinds.now a.operation.now 0) (toks_at a.kinds.now a.operand.now 0) c.in-Sets.is d e

pub returns-in-Passes : goal.returns-in-Passes
returns-in-Passes c = let a = c.args in formed-always a.nest (toks_at a.kinds.now a.name.now 0) (toks_at a.kinds.now a.operation.now 0) (toks_at a.kinds.now a.operand.now 0) c.in-Passes.is
