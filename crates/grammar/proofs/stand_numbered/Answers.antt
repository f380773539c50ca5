-- `stand_numbered` meets its contract: each number by its test. Assumes nothing.
use Rattle.std.proofs.Common.{rules, arith, ◌≤◌, refl, sym, ◌∙◌}
use borrow.Author.Tests.{ne_eqb}
use Rattle.rules.specs.Choice.{choose}
use Rattle.rules.proofs.Choices.{passed_over}
use Rattle.grammar.specs.Kinds.{table_numbered}
use Rattle.grammar.proofs.stand_numbered.Goals as goal

pub returns-in-0 : goal.returns-in-0
unfolding table_numbered choose
returns-in-0 c = rw c.in-0.is refl

pub returns-in-1 : goal.returns-in-1
unfolding table_numbered choose
returns-in-1 c = rw c.in-1.is refl

pub returns-in-2 : goal.returns-in-2
unfolding table_numbered choose
returns-in-2 c = rw c.in-2.is refl

pub returns-in-3 : goal.returns-in-3
unfolding table_numbered choose
returns-in-3 c = rw c.in-3.is refl

pub returns-in_default : goal.returns-in_default
unfolding table_numbered
returns-in_default c =
    let h : 4 ≤ c.args.number = search rules in
    sym (passed_over _ _ (ne_eqb c.args.number 0 (λ e. omega (arith, e, h))) ∙ passed_over _ _ (ne_eqb c.args.number 1 (λ e. omega (arith, e, h))) ∙ passed_over _ _ (ne_eqb c.args.number 2 (λ e. omega (arith, e, h))) ∙ passed_over _ _ (ne_eqb c.args.number 3 (λ e. omega (arith, e, h))))
