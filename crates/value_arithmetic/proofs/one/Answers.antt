use mir.Syntax.{w32}
use mir.Val.{SFits}
use mir.Facts.{to_z-of_z}
use Rattle.value_sums.specs.Answers.{toks_by}
use Rattle.value_arithmetic.proofs.Rules.{one-closed}
use borrow.Author.Rules.{rules}
use Rattle.value_arithmetic.proofs.one.Goals as goal

pub returns : goal.returns
returns c held cell = let fits : SFits w32 c.args.first.value = record { sfits = search rules } in one-closed (toks_by held c.args.code.now) cell _ _ _ (simp (to_z-of_z fits) at c.closed.ensures held)
