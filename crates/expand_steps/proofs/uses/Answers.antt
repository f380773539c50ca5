-- `uses` meets its contract: the tests in their order. Assumes nothing.
use mathlib.Core.Path.{refl, sym, ap, ◌∙◌}
use Rattle.words.proofs.Laws.{some-word}
use Rattle.rules.specs.Library.{operation_of}
use Rattle.rules.specs.Machine.{is_title}
use Rattle.rules.proofs.ReadLines.{written_in}
use Rattle.deck.specs.Slots.{machine_of_deck}
use Rattle.expand_steps.proofs.Using.{word-told, used-ill, used-word, used-unready, used-copied}
use Rattle.expand_steps.proofs.uses.Goals as goal

pub returns-then-is_ill_written : goal.returns-then-is_ill_written
returns-then-is_ill_written c = used-ill _ _ _ c.args.line.now c.args.run _ c.requires.3 _ (sym c.is_ill_written.ensures ∙ c.if-is_ill_written.true) c.refuse.ensures

pub returns-then-is_some : goal.returns-then-is_some
returns-then-is_some c = used-word _ _ _ c.args.line.now c.args.run _ c.requires.3 _ (sym c.is_ill_written.ensures ∙ c.if-is_ill_written.false) (sym (word-told c.args.line.now _ _ c.operation_of-operation.ensures refl) ∙ (sym (some-word c.word.result _ _ c.word.ensures.number c.is_some.ensures) ∙ c.if-is_some.true)) c.refuse-then-is_some.ensures

pub returns-then-is_title : goal.returns-then-is_title
returns-then-is_title c = used-unready _ _ _ c.args.line.now c.args.run _ c.requires.3 _ (sym c.is_ill_written.ensures ∙ c.if-is_ill_written.false) c.stop.ensures

pub copies-requires : goal.copies-requires
copies-requires c = (c.requires.0, c.requires.1, (written_in c.args.line.now (sym c.is_ill_written.ensures ∙ c.if-is_ill_written.false)).0, c.requires.2, c.requires.3, c.requires.4)

pub returns : goal.returns
unfolding operation_of
returns c = used-copied c.args.deck.now _ _ c.args.line.now c.args.run _ c.requires.3 _ (sym c.is_ill_written.ensures ∙ c.if-is_ill_written.false) _ _
    (sym (word-told c.args.line.now _ _ c.operation_of-operation.ensures refl) ∙ (sym (some-word c.word.result _ _ c.word.ensures.number c.is_some.ensures) ∙ c.if-is_some.false))
    (λ d ready. ap (is_title (machine_of_deck d)) (sym c.operation_of-operation.ensures) ∙ sym (c.is_title.ensures d ready) ∙ c.if-is_title.false) (c.copies.ensures c.args.deck.now)
