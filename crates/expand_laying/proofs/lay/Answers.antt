-- `laying::lay` meets its contract. Assumes nothing.
use native.Mathlib.Omega.{arith}
use Rattle.expand_laying.proofs.Fronts.{at-most-left, joined-size, put-within, laid-two, laid-three}
use borrow.Author.Rules.{rules}
use Rattle.expand_laying.proofs.lay.Goals as goal

pub add-start-requires : goal.add-start-requires
add-start-requires c = (search rules, at-most-left _ _ _ c.requires.1, c.requires.4, omega arith)

pub put-operated-requires : goal.put-operated-requires
put-operated-requires c = let size = joined-size _ _ _ _ _ _ _ c.add-start.ensures in (search rules, omega arith, c.requires.2, c.requires.5, omega arith)

pub returns-then-m-eq0 : goal.returns-then-m-eq0
returns-then-m-eq0 c = laid-two _ _ _ _ _ _ _ _ _ _ _ _ c.spaces.ensures c.add-start.ensures c.put-operated.ensures c.if-m-eq0.true

pub put-requires : goal.put-requires
put-requires c = let size = joined-size _ _ _ _ _ _ _ c.add-start.ensures in let next = put-within _ _ _ _ _ _ _ (omega arith) c.put-operated.ensures in (search rules, omega arith, c.requires.3, c.requires.6, omega arith)

pub returns : goal.returns
returns c = laid-three _ _ _ _ _ _ _ _ _ _ _ _ c.spaces.ensures c.add-start.ensures c.put-operated.ensures _ _ c.if-m-eq0.false c.put.ensures
