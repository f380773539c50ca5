-- `kind_meant` meets its contract: by the numbers turned round. Assumes nothing.
use Rattle.std.proofs.Common.{rules, ◌≡◌, ◌≤◌, ◌∙◌, ap, sym}
use Rattle.rules.specs.Choice.{choose}
use Rattle.kinds.specs.Kinds.{kind_for}
use Rattle.grammar.proofs.Numbered.{kind_with, back, low, none-above}
use Rattle.grammar.proofs.kind_meant.Goals as goal

pub returns-in-0-to-4 : goal.returns-in-0-to-4
returns-in-0-to-4 c = λ k e. let h : c.args.number ≤ 4 = search rules in c.kind_numbered.ensures ∙ ap kind_for (low c.args.number h ∙ ap kind_with e ∙ back k)

pub returns-in-5 : goal.returns-in-5
unfolding kind_with choose
returns-in-5 c = λ k e. ap (λ n. kind_for (kind_with n)) (sym c.in-5.is ∙ e) ∙ ap kind_for (back k)

pub returns-in-6 : goal.returns-in-6
unfolding kind_with choose
returns-in-6 c = λ k e. ap (λ n. kind_for (kind_with n)) (sym c.in-6.is ∙ e) ∙ ap kind_for (back k)

pub returns-in-7 : goal.returns-in-7
unfolding kind_with choose
returns-in-7 c = λ k e. ap (λ n. kind_for (kind_with n)) (sym c.in-7.is ∙ e) ∙ ap kind_for (back k)

pub returns-in_default : goal.returns-in_default
returns-in_default c = λ k e. let h : 8 ≤ c.args.number = search rules in absurd (none-above k c.args.number h e)
