-- `system_byte` meets its contract: by the three comparisons. Assumes nothing.
use mathlib.Core.Path.{sym, ◌∙◌}
use Rattle.names.proofs.Slots.{is-list, is-index, is-section, is_none}
use Rattle.names.proofs.system_byte.Goals as goal

pub returns-then-equal : goal.returns-then-equal
returns-then-equal c = is-list c.args.name.now (sym c.equal.ensures ∙ c.if-equal.true)

pub returns-then-equal-2 : goal.returns-then-equal-2
returns-then-equal-2 c = is-index c.args.name.now (sym c.equal.ensures ∙ c.if-equal.false) (sym c.equal-2.ensures ∙ c.if-equal-2.true)

pub returns-then-equal-3 : goal.returns-then-equal-3
returns-then-equal-3 c = is-section c.args.name.now (sym c.equal.ensures ∙ c.if-equal.false) (sym c.equal-2.ensures ∙ c.if-equal-2.false) (sym c.equal-3.ensures ∙ c.if-equal-3.true)

pub returns : goal.returns
returns c = is_none c.args.name.now (sym c.equal.ensures ∙ c.if-equal.false) (sym c.equal-2.ensures ∙ c.if-equal-2.false) (sym c.equal-3.ensures ∙ c.if-equal-3.false)
