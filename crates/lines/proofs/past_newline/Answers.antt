-- `lines::past_newline` meets its contract: by its test. Assumes nothing.
use mathlib.Core.Path.{sym}
use borrow.Author.Tests.{lt-ltb, le-ltb}
use Rattle.rules.proofs.Choices.{chosen, passed_over}
use Rattle.lines.specs.Ends.{past_newline}
use Rattle.lines.proofs.past_newline.Goals as goal

pub returns-then-end-file : goal.returns-then-end-file
unfolding past_newline
returns-then-end-file c = sym (chosen _ _ (lt-ltb _ _ c.if-end-file.true))

pub returns : goal.returns
unfolding past_newline
returns c = sym (passed_over _ _ (le-ltb _ _ c.if-end-file.false))
