-- `number_order` meets its contract. Assumes nothing.
use mathlib.Core.Path.{ap, ◌∙◌}
use mir.Facts.{to_z-of_z}
use Rattle.value_comparisons.specs.Orders.{order_of}
use Rattle.value_comparisons.proofs.Ordered.{numbers-are}
use Rattle.value_comparisons.proofs.number_order.Goals as goal

pub returns : goal.returns
returns c = ap order_of (simp (to_z-of_z c.ranges.a, to_z-of_z c.ranges.b) at c.cmp.ensures) ∙ numbers-are c.args.a c.args.b
