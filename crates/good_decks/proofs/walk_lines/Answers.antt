-- `walk_lines` meets its contract: what is left to walk is what was promised. Assumes nothing.
use native.Mathlib.Omega.{arith}
use mathlib.Core.Path.{refl}
use Rattle.good_decks.proofs.Walking.{walk-starts, walk_ends, walk-unread, walk_refused, walk-on, seen_more}
use Rattle.good_decks.proofs.walk_lines.Goals as goal

pub loop-init : goal.loop-init
loop-init c = (refl, walk-starts c.args.deck.now _ _ c.args.at)

pub returns-in_err-next : goal.returns-in_err-next
returns-in_err-next c = rw c.from_residual.ensures (walk-unread c.args.deck.now _ _ _ _ c.loop.place c.args.at c.loop.invariant.1 c.loop-test.true _ c.read_line.ensures c.in_err-next.was)

pub returns-then-not-is_placed : goal.returns-then-not-is_placed
returns-then-not-is_placed c = walk_refused c.args.deck.now _ _ _ _ c.loop.place c.args.at c.loop.invariant.1 c.loop-test.true _ c.read_line.ensures _ c.in_ok-next.was _ c.is_placed.ensures c.if-not-is_placed.true

pub loop-preserved : goal.loop-preserved
loop-preserved c = (seen_more _ _ _ _ c.loop.invariant.0 c.seen_after-seen.ensures, walk-on c.args.deck.now _ _ _ _ c.loop.place c.args.at c.loop.invariant.1 c.loop-test.true _ c.read_line.ensures _ c.in_ok-next.was _ c.is_placed.ensures c.if-not-is_placed.false _ c.seen_after-seen.ensures)

pub returns : goal.returns
returns c = walk_ends c.args.deck.now _ _ _ _ c.loop.place c.args.at c.loop.invariant.1 (omega (arith, c.loop-test.false))
