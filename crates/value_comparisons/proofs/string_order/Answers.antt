-- `string_order` meets its contract. Assumes nothing.
use Rattle.value_comparisons.proofs.Ordered.{same-sized, other-sized}
use Rattle.value_comparisons.proofs.string_order.Goals as goal

pub returns-in-Equal : goal.returns-in-Equal
returns-in-Equal c = same-sized c.args.s.now c.args.t.now c.cmp.ensures c.in-Equal.is c.cmp-in-Equal.ensures

pub returns-in_default : goal.returns-in_default
returns-in_default c = other-sized c.args.s.now c.args.t.now c.cmp.ensures c.in_default.not-Equal
