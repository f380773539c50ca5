-- `uses_text` meets its contract: the line is cut out of the deck, and used. Assumes nothing.
use mathlib.Core.Path.{sym, subst}
use Rattle.expand_levels.specs.Stack.{Sized}
use Rattle.expand_levels.proofs.Stacks.{topped-sized}
use Rattle.expand_steps.proofs.Deciding.{text-writes, text-told}
use Rattle.expand_steps.proofs.uses_text.Goals as goal

pub uses-requires : goal.uses-requires
uses-requires c = let p = c.requires in (p.0, p.1, p.2, p.3.1, subst Sized (sym c.with_top-next.ensures) (topped-sized c.args.run.running p.3.1 p.3.0 c.advance.result))

pub returns : goal.returns
returns c =
    let p = c.requires in
    text-told c.args.deck.now c.args.at _ _ _ _ _ c.args.run _ c.run_at-line.ensures
    (text-writes c.args.deck.now _ _ _ _ c.args.run p.3.1 p.3.0 _ _ _ _ _ c.top-level.ensures c.with_top-next.ensures p.3.2 c.advance.ensures c.uses.ensures)
