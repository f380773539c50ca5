-- `faults::has_bad_name` meets its contract: four tests in turn. Assumes nothing.
use mathlib.Core.Path.{ap, sym, ◌∙◌}
use Rattle.text.specs.Bytes.{Bytes}
use Rattle.symbols.specs.Held.{unknown_in}
use Rattle.shapes.specs.Shapes.{part}
use Rattle.faults.proofs.Tests.{first_holds, second_holds, third-holds, last_says, front_cut}
use Rattle.faults.proofs.has_bad_name.Goals as goal

pub returns-then-is_long_sequence : goal.returns-then-is_long_sequence
returns-then-is_long_sequence c = first_holds _ _ _ _ (sym c.is_long_sequence.ensures ∙ c.if-is_long_sequence.true)

pub returns-then-has_unknown : goal.returns-then-has_unknown
returns-then-has_unknown c = second_holds _ _ _ _ (sym c.is_long_sequence.ensures ∙ c.if-is_long_sequence.false) (ap (λ (b : Bytes). unknown_in b) (sym (front_cut c.args.statement.codes.name c.args.statement.code.now)) ∙ (sym c.has_unknown.ensures ∙ c.if-has_unknown.true))

pub returns-then-is_used_twice : goal.returns-then-is_used_twice
returns-then-is_used_twice c = third-holds _ _ _ _ (sym c.is_long_sequence.ensures ∙ c.if-is_long_sequence.false) (ap (λ (b : Bytes). unknown_in b) (sym (front_cut c.args.statement.codes.name c.args.statement.code.now)) ∙ (sym c.has_unknown.ensures ∙ c.if-has_unknown.false)) (sym c.is_used_twice.ensures ∙ c.if-is_used_twice.true)

pub returns : goal.returns
unfolding part
returns c = c.has_bad_symbols.ensures ∙ last_says _ _ _ _ (sym c.is_long_sequence.ensures ∙ c.if-is_long_sequence.false) (ap (λ (b : Bytes). unknown_in b) (sym (front_cut c.args.statement.codes.name c.args.statement.code.now)) ∙ (sym c.has_unknown.ensures ∙ c.if-has_unknown.false)) (sym c.is_used_twice.ensures ∙ c.if-is_used_twice.false)
