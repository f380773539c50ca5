-- `slot_byte` meets its contract: by the three searches. Assumes nothing.
use borrow.Author.Rules.{rules}
use Prim.Native.Nat.{ℕ, ◌+◌, min}
use mathlib.Core.Path.{ap, ◌∙◌}
use Rattle.deck.specs.Coders.{own_code, shared_code, no_code}
use Rattle.names.proofs.Slots.{is-there, is-not, own-byte, shared-byte, other_byte}
use Rattle.names.proofs.slot_byte.Goals as goal

pub returns-then-mine-names : goal.returns-then-mine-names
returns-then-mine-names c =
    let a = c.args in
    let n = a.name.now in
    c.code.ensures ∙ ap (λ (m : ℕ). min (own_code + m) no_code) c.place-mine.ensures
    ∙ own-byte a.names.own.now a.names.global.now a.names.shared.now n (is-there a.names.own.now n c.place-mine.result c.place-mine.ensures (search rules))

pub returns-then-place-names : goal.returns-then-place-names
returns-then-place-names c =
    let a = c.args in
    let n = a.name.now in
    c.code-then-place-names.ensures ∙ ap (λ (m : ℕ). min (shared_code + m) no_code) c.place-then-place-names.ensures
    ∙ shared-byte a.names.own.now a.names.global.now a.names.shared.now n (is-not a.names.own.now n c.place-mine.result c.place-mine.ensures (search rules))
    (is-there a.names.global.now n c.place.result c.place.ensures (search rules))

pub returns : goal.returns
returns c =
    let a = c.args in
    let n = a.name.now in
    c.system_byte.ensures
    ∙ other_byte a.names.own.now a.names.global.now a.names.shared.now n (is-not a.names.own.now n c.place-mine.result c.place-mine.ensures (search rules))
    (is-not a.names.global.now n c.place.result c.place.ensures (search rules))
