-- `fields::holds_spaces` meets its contract. Assumes nothing.
use mathlib.Core.Path.{ap, sym, ◌∙◌}
use mathlib.Core.Bool.{◌||◌}
use Rattle.text.specs.Bytes.{bytes, same}
use Rattle.rules.specs.Fields.{holds_spaces}
use Rattle.fields.proofs.holds_spaces.Goals as goal

pub returns-then-equal : goal.returns-then-equal
unfolding holds_spaces
returns-then-equal c =
    let o = c.args.operation.now in
    c.if-equal.true ∙ sym (ap (λ b. b || same o (bytes "SETB")) (sym c.equal.ensures ∙ c.if-equal.true))

pub returns-else-equal : goal.returns-else-equal
unfolding holds_spaces
returns-else-equal c =
    let o = c.args.operation.now in
    c.equal-else-equal.ensures ∙ sym (ap (λ b. b || same o (bytes "SETB")) (sym c.equal.ensures ∙ c.if-equal.false))
