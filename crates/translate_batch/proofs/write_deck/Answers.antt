-- What is written lies in the buffer, and is the deck's text.
use Rattle.std.proofs.Common.{arith, sym, length-take-le}
use Rattle.answers.proofs.Writing.{deck-fits}
use Rattle.translate_batch.proofs.Telling.{read-back, deck-appended}
use Rattle.translate_batch.proofs.write_deck.Goals as goal

pub slice_bounds-text-end : goal.slice_bounds-text-end
slice_bounds-text-end g c =
    deck-fits _ (omega arith) _ c.put_deck-count.ensures.out_after c.put_deck-count.ensures.value

pub slice_bounds-write_all-end : goal.slice_bounds-write_all-end
slice_bounds-write_all-end g c =
    sym (length-take-le _ _ (deck-fits _ (omega arith) _ c.put_deck-count.ensures.out_after c.put_deck-count.ensures.value))

pub returns : goal.returns
returns g c =
    let put = c.put_deck-count in
    let fits = deck-fits _ (omega arith) _ put.ensures.out_after put.ensures.value in
    deck-appended _ _ _ _ c.write_all-3.result _ c.args.deck.now
    (read-back _ _ put.ensures.out_after put.ensures.value fits)
    c.in_ok-write_all.ensures.bytes
    c.in_ok-write_all-2.ensures.bytes
    c.write_all-3.ensures.bytes
