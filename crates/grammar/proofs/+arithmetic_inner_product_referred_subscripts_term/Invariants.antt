-- Arithmetic and its references, which call each other. The measure is six for each level of nesting that remains, with the rules of a level in the order of
-- their calls: arithmetic, product, term, referred, subscripts, inner. Assumes nothing.
use Rattle.grammar.proofs.Chains.{Loop, to_read}
use Rattle.grammar.proofs.Rules.{products-of, sums-of}
use Prim.Native.Nat.{◌+◌, ◌*◌}
use Rattle.grammar.proofs.+arithmetic_inner_product_referred_subscripts_term.Given as goal

abbrev pub decreases-arithmetic : goal.decreases-arithmetic
decreases-arithmetic l = 6 * l.nest + 5

abbrev pub decreases-inner : goal.decreases-inner
decreases-inner l = 6 * l.nest + 0

abbrev pub decreases-product : goal.decreases-product
decreases-product l = 6 * l.nest + 4

abbrev pub decreases-referred : goal.decreases-referred
decreases-referred l = 6 * l.nest + 2

abbrev pub decreases-subscripts : goal.decreases-subscripts
decreases-subscripts l = 6 * l.nest + 1

abbrev pub decreases-term : goal.decreases-term
decreases-term l = 6 * l.nest + 3

abbrev pub invariant-arithmetic-loop-next : goal.invariant-arithmetic-loop-next
invariant-arithmetic-loop-next l = Loop (sums-of l.nest) l.kinds l.code l.at l.here

abbrev pub decreases-arithmetic-loop-next : goal.decreases-arithmetic-loop-next
decreases-arithmetic-loop-next l = to_read (sums-of l.nest) l.kinds l.code l.here

abbrev pub invariant-product-loop-next : goal.invariant-product-loop-next
invariant-product-loop-next l = Loop (products-of l.nest) l.kinds l.code l.at l.here

abbrev pub decreases-product-loop-next : goal.decreases-product-loop-next
decreases-product-loop-next l = to_read (products-of l.nest) l.kinds l.code l.here
