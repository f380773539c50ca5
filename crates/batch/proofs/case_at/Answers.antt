-- `batch::case_at` meets its contract. Assumes nothing.
use native.Mathlib.Omega.{arith}
use mathlib.Core.Path.{sym, ◌∙◌}
use Rattle.batch.proofs.Numbers.{read-inside}
use Rattle.batch.proofs.Cases.{at-end, other_word, short-word, no-id, no-space, has-head, word_read}
use Rattle.batch.proofs.case_at.Goals as goal

pub returns-then-input-at : goal.returns-then-input-at
returns-then-input-at c = sym (at-end _ _ c.if-input-at.true)

pub returns-then-input-at-lt5 : goal.returns-then-input-at-lt5
returns-then-input-at-lt5 c = sym (short-word _ _ c.if-input-at.false c.if-input-at-lt5.true)

pub returns-then-not-equal : goal.returns-then-not-equal
returns-then-not-equal c =
    let a = c.args in
    sym (other_word _ _ c.if-input-at.false (word_read a.input.now a.at c.equal.ensures ∙ c.if-not-equal.true))

pub returns-then-blank-id : goal.returns-then-blank-id
returns-then-blank-id c =
    let a = c.args in
    sym (no-id _ _ c.if-input-at.false (word_read a.input.now a.at c.equal.ensures ∙ c.if-not-equal.false) c.id_end-blank.ensures.value c.if-blank-id.true)

pub returns-then-byte-ne32 : goal.returns-then-byte-ne32
returns-then-byte-ne32 c =
    let a = c.args in
    sym (no-space _ _ c.if-input-at.false (word_read a.input.now a.at c.equal.ensures ∙ c.if-not-equal.false) c.id_end-blank.ensures.value c.if-blank-id.false (λ e. c.if-byte-ne32.true (c.byte.ensures ∙ e)))

pub headed-requires : goal.headed-requires
headed-requires c = read-inside c.args.input.now _ (sym c.if-byte-ne32.false ∙ c.byte.ensures) (omega arith)

pub returns : goal.returns
returns c =
    let a = c.args in
    c.headed.ensures ∙ sym (has-head _ _ c.if-input-at.false (word_read a.input.now a.at c.equal.ensures ∙ c.if-not-equal.false) c.id_end-blank.ensures.value c.if-blank-id.false (sym c.byte.ensures ∙ c.if-byte-ne32.false))
