use mathlib.Core.Path.{ap, ◌∙◌}
use mathlib.Core.List.{[]}
use mir.Syntax.{w32}
use mir.Val.{SFits}
use mir.Facts.{to_z-of_z}
use Rattle.rules.specs.Values.{operate}
use Rattle.rules.specs.Grammar.{given}
use Rattle.value_sums.specs.Answers.{toks_by}
use Rattle.value_sums.proofs.Answers.{same-plain}
use borrow.Author.Rules.{rules}
use Rattle.value_sums.proofs.joined.Goals as goal

pub returns : goal.returns
returns c held =
    let from = toks_by held c.args.code.now in
    let a : SFits w32 c.args.left.value = search rules in
    let b : SFits w32 c.args.right.value = search rules in
    c.placed.ensures from ∙ ap (λ o. given o (from c.args.left.next) (from c.args.right.next)) ((simp (to_z-of_z a, to_z-of_z b) at c.operate.ensures) ∙ ap (λ s. operate s c.args.left.value c.args.right.value) (c.text_at-sign.ensures [] ∙ same-plain [] held _ _))
