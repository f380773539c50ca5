use mathlib.Core.Path.{ap, sym, ◌∙◌}
use mir.Syntax.{w32}
use mir.Val.{SFits}
use mir.Facts.{to_z-of_z}
use Rattle.rules.specs.Values.{operate}
use Rattle.rules.specs.Grammar.{given}
use Rattle.value_sums.specs.Answers.{tells_by}
use Rattle.value_sums.proofs.Answers.{number-read, number-stops, told-number}
use borrow.Author.Rules.{rules}
use Rattle.value_sums.proofs.joined_so.Goals as goal

pub returns-in_err-right : goal.returns-in_err-right
returns-in_err-right c from = number-stops (λ z. z) from _ (λ z. z) c.in_err-right.was _ c.from_residual.ensures.1

pub returns : goal.returns
returns c from =
    let b : SFits w32 c.in_ok-right.right.value = search rules in
    ap (tells_by (λ z. z) from) c.by_number.ensures ∙ told-number (λ z. z) from _ ∙ c.placed.ensures from ∙ ap (λ o. given o (from c.args.here) (from c.in_ok-right.right.next)) (simp (to_z-of_z c.ranges.a, to_z-of_z b) at c.operate.ensures) ∙ sym (number-read (λ z. z) from (λ b y. given (operate c.args.sign c.args.a b) (from c.args.here) y) c.in_ok-right.was)
