-- Arithmetic and its references, which call each other. The measure is seven for each level of nesting that remains, with the rules of a level in the order of
-- their calls: arithmetic, product, term, referred, reference, subscripts, inner. Assumes nothing.
use Rattle.rules.specs.Evaluate.{Cell}
use Rattle.value_arithmetic.specs.Evaluating.{Holds}
use Rattle.value_arithmetic.proofs.Chains.{Loop, to_read}
use Rattle.value_arithmetic.proofs.Rules.{products-of, sums-of}
use Prim.Native.Nat.{ℕ, ◌+◌, ◌*◌}
use Rattle.value_arithmetic.proofs.+arithmetic_inner_product_reference_referred_subscripts_term.Given as goal

abbrev pub decreases-arithmetic : goal.decreases-arithmetic
decreases-arithmetic l = 7 * l.nest + 6

abbrev pub decreases-inner : goal.decreases-inner
decreases-inner l = 7 * l.nest + 0

abbrev pub decreases-product : goal.decreases-product
decreases-product l = 7 * l.nest + 5

abbrev pub decreases-reference : goal.decreases-reference
decreases-reference l = 7 * l.nest + 2

abbrev pub decreases-referred : goal.decreases-referred
decreases-referred l = 7 * l.nest + 3

abbrev pub decreases-subscripts : goal.decreases-subscripts
decreases-subscripts l = 7 * l.nest + 1

abbrev pub decreases-term : goal.decreases-term
decreases-term l = 7 * l.nest + 4

abbrev pub invariant-arithmetic-loop-next : goal.invariant-arithmetic-loop-next
invariant-arithmetic-loop-next l = (held : ℕ → Cell) → Holds l.scene held → Loop (sums-of l.nest) held l.code l.at l.left

abbrev pub decreases-arithmetic-loop-next : goal.decreases-arithmetic-loop-next
decreases-arithmetic-loop-next l = to_read l.code l.left

abbrev pub invariant-product-loop-next : goal.invariant-product-loop-next
invariant-product-loop-next l = (held : ℕ → Cell) → Holds l.scene held → Loop (products-of l.nest) held l.code l.at l.left

abbrev pub decreases-product-loop-next : goal.decreases-product-loop-next
decreases-product-loop-next l = to_read l.code l.left
