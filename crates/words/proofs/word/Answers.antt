-- `word` meets its contract: none of the words passed is the operation. Assumes nothing.
use Rattle.std.proofs.Common.{arith, None}
use Rattle.words.proofs.Laws.{found-number, found-statement, next-number, none-number, by-number}
use Rattle.words.proofs.word.Goals as goal

pub returns-then-spells-clause-number : goal.returns-then-spells-clause-number
returns-then-spells-clause-number c = found-number c.args.op.now c.loop-row.row-index _ _ (omega arith) c.loop-row.invariant c.spells.ensures c.if-spells.true

pub returns-then-spells-clause-statement : goal.returns-then-spells-clause-statement
returns-then-spells-clause-statement c = found-statement c.args.op.now c.loop-row.row-index _ _ (omega arith) c.loop-row.invariant c.spells.ensures c.if-spells.true

pub loop-row-preserved : goal.loop-row-preserved
loop-row-preserved c = next-number c.args.op.now c.loop-row.row-index _ _ (omega arith) c.loop-row.invariant c.spells.ensures c.if-spells.false

pub returns-clause-number : goal.returns-clause-number
returns-clause-number c = none-number c.args.op.now c.loop-row.row-index (omega arith) (omega arith) c.loop-row.invariant

pub returns-clause-statement : goal.returns-clause-statement
returns-clause-statement c = by-number None c.args.op.now (none-number c.args.op.now c.loop-row.row-index (omega arith) (omega arith) c.loop-row.invariant)
