-- The id and what translation answers are written one behind the other.
use Rattle.std.proofs.Common.{length, ℕ, ap, sym, ◌∙◌, arith}
use Rattle.answers.specs.Answers.{refused_answer}
use Rattle.translate_batch.proofs.Telling.{deck-held, refused-says, answer-appended, on_ok}
use Rattle.translate_batch.proofs.respond.Goals as goal

pub returns-in_ok-write_deck-in-Ok : goal.returns-in_ok-write_deck-in-Ok
returns-in_ok-write_deck-in-Ok g c =
    let held = deck-held c.args.library.now c.args.deck.now c.translate.new.deck c.in-Ok.length c.in-Ok.ensures in
    answer-appended _ _ _ _ c.args.id.now c.args.library.now (length c.args.deck.now) _ held.says
    c.in_ok-write_all.ensures.bytes
    c.in_ok-write_all-2.ensures.bytes
    c.in_ok-write_deck-in-Ok.ensures

pub returns-else-length-deck : goal.returns-else-length-deck
returns-else-length-deck g c =
    let held = deck-held c.args.library.now c.args.deck.now c.translate.new.deck c.in-Ok.length c.in-Ok.ensures in
    let fits = held.fits in
    absurd (omega (arith, fits))

pub returns-in-Err : goal.returns-in-Err
returns-in-Err g c =
    on_ok c.write_refused.result
    (λ h. answer-appended _ _ _ _ c.args.id.now c.args.library.now (length c.args.deck.now) _
    (refused-says c.args.library.now c.args.deck.now c.translate.new.deck c.in-Err.refused.fault c.in-Err.refused.line c.in-Err.ensures
    ∙ ap (λ (n : ℕ). refused_answer n c.in-Err.refused.line) (sym c.from.ensures))
    c.in_ok-write_all.ensures.bytes
    c.in_ok-write_all-2.ensures.bytes
    h)
    c.write_refused.ensures
