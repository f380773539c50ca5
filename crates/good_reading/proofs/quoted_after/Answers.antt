use mathlib.Core.Path.{sym}
use borrow.Author.Tests.{eq-eqb, ne_eqb}
use Rattle.rules.proofs.Choices.{chosen, passed_over}
use Rattle.good_reading.proofs.quoted_after.Goals as goal

pub returns-then-text-eq39 : goal.returns-then-text-eq39
returns-then-text-eq39 c = sym (chosen _ _ (eq-eqb _ 39 c.if-text-eq39.true))

pub returns : goal.returns
returns c = sym (passed_over _ _ (ne_eqb _ 39 c.if-text-eq39.false))
