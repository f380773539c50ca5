use mir.Syntax.{w32}
use mir.Val.{SFits}
use mir.Facts.{to_z-of_z}
use Rattle.value_sums.specs.Answers.{toks_by}
use Rattle.value_arithmetic.proofs.Rules.{two-closed}
use borrow.Author.Rules.{rules}
use Rattle.value_arithmetic.proofs.two.Goals as goal

pub returns : goal.returns
returns c held cell =
    let a : SFits w32 c.args.first.value = record { sfits = search rules } in
    let b : SFits w32 c.args.second.value = record { sfits = search rules } in
    two-closed (toks_by held c.args.code.now) cell _ _ _ _ (simp (to_z-of_z a, to_z-of_z b) at c.closed.ensures held)
