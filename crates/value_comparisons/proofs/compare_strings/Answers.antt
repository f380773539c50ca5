-- `comparing::compare_strings` meets its contract. Assumes nothing.
use Rattle.value_comparisons.proofs.Compared.{strings-code}
use Rattle.value_comparisons.proofs.compare_strings.Goals as goal

pub returns : goal.returns
returns c = strings-code _ _ _ _ _ _ _ _ _ c.bytes_of.ensures c.bytes_of-2.ensures c.string_order-order.ensures c.holds.ensures
