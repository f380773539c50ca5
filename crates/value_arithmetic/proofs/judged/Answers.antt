use mathlib.Core.Path.{sym, ap, ◌∙◌}
use Rattle.rules.proofs.Choices.{chosen, passed_over}
use Rattle.kinds.specs.Kinds.{kind_of, table_of}
use Rattle.kinds.proofs.Back.{kind-back}
use Rattle.value_sums.proofs.Answers.{tells-broken}
use Rattle.value_arithmetic.proofs.judged.Goals as goal

pub returns-then-takes : goal.returns-then-takes
returns-then-takes g c cell from k = c.placed.ensures from ∙ sym (chosen _ _ (sym (c.takes.ensures ∙ ap (λ k. table_of c.args.stand k c.is_bare-bare.result) (ap kind_of k ∙ kind-back cell.kind) ∙ ap (table_of c.args.stand cell.kind) c.is_bare-bare.ensures) ∙ c.if-takes.true))

pub returns : goal.returns
returns g c cell from k = tells-broken (λ v. v) from _ ∙ sym (passed_over _ _ (sym (c.takes.ensures ∙ ap (λ k. table_of c.args.stand k c.is_bare-bare.result) (ap kind_of k ∙ kind-back cell.kind) ∙ ap (table_of c.args.stand cell.kind) c.is_bare-bare.ensures) ∙ c.if-takes.false))
