-- `translating::write` meets its contract: the deck is written apart, and copied where there is room. Assumes nothing.
use borrow.Author.Rules.{rules}
use native.Mathlib.Omega.{arith}
use Rattle.deck.proofs.Size.{deck-size}
use Rattle.translating.proofs.Outcomes.{short-right, deck-right}
use Rattle.translating.proofs.Checked.{globals-held}
use Rattle.translating.proofs.write.Goals as goal

pub put_deck-length-requires : goal.put_deck-length-requires
put_deck-length-requires c = let p = c.requires in record { library_value = (p.0, (p.1.0, globals-held _ _ _ _ p.0 p.1.1)); in_bounds = search rules }

pub returns-then-too_small : goal.returns-then-too_small
returns-then-too_small c = short-right _ _ c.requires.0 _ c.put_deck-length.ensures.value c.if-too_small.true

pub slice_bounds-copy-end : goal.slice_bounds-copy-end
slice_bounds-copy-end c = omega (arith, c.put_deck-length.ensures.value, deck-size c.args.library.now c.requires.0)

pub returns : goal.returns
returns c =
    let v = c.requires.0 in
    deck-right _ _ v _ c.put_deck-length.ensures.value _ _ _ c.if-too_small.false (deck-size c.args.library.now v) c.put_deck-length.ensures.out_after c.copy.ensures
