-- `piece_at` meets its contract: each return is one law of the pieces. Assumes nothing.
use borrow.Author.Rules.{rules}
use Prim.Native.Nat.{ℕ, ◌<◌}
use native.Mathlib.Omega.{arith}
use mathlib.Core.Path.{ap, sym, ◌∙◌}
use mathlib.Core.List.{[], ◌∷◌}
use lib.ListN.{length, get_or}
use Rattle.text.specs.Bytes.{Bytes}
use Rattle.text.specs.Characters.{letter}
use Rattle.rules.specs.Lexemes.{Before, is_mark}
use Rattle.names.specs.Names.{slot_byte}
use Rattle.coding.specs.Coded.{before_of}
use Rattle.coding.proofs.Pieces.{pair-piece, symbol-piece, letter-inside, lone-piece, mark-piece, quote-piece, byte-piece}
use Rattle.coding.proofs.piece_at.Goals as goal

pub returns-then-next-eq38 : goal.returns-then-next-eq38
returns-then-next-eq38 c =
    let a = c.args in
    let b : Before = before_of a.before in
    let f : Bytes → ℕ = slot_byte a.names.own.now a.names.global.now a.names.shared.now in
    let h : a.at < length a.field.now = search rules in
    pair-piece f a.quotes a.field.now a.at b h c.if-c-eq38.true (sym c.byte-next.ensures ∙ c.if-next-eq38.true)

pub slice_bounds-slot_byte-end : goal.slice_bounds-slot_byte-end
slice_bounds-slot_byte-end c =
    let a = c.args in
    let b : Before = before_of a.before in
    let f : Bytes → ℕ = slot_byte a.names.own.now a.names.global.now a.names.shared.now in
    let h : a.at < length a.field.now = search rules in
    let k = letter-inside f a.quotes a.field.now a.at b h c.if-c-eq38.true (ap letter (sym c.byte-next.ensures) ∙ (sym c.letter.ensures ∙ c.if-letter.true)) in omega (arith, k)

pub bounds-field-end-then-letter : goal.bounds-field-end-then-letter
bounds-field-end-then-letter c =
    let a = c.args in
    let b : Before = before_of a.before in
    let f : Bytes → ℕ = slot_byte a.names.own.now a.names.global.now a.names.shared.now in
    let h : a.at < length a.field.now = search rules in
    let k = letter-inside f a.quotes a.field.now a.at b h c.if-c-eq38.true (ap letter (sym c.byte-next.ensures) ∙ (sym c.letter.ensures ∙ c.if-letter.true)) in omega (arith, k)

pub returns-then-letter : goal.returns-then-letter
returns-then-letter c =
    let a = c.args in
    let b : Before = before_of a.before in
    let f : Bytes → ℕ = slot_byte a.names.own.now a.names.global.now a.names.shared.now in
    let h : a.at < length a.field.now = search rules in
    symbol-piece f a.quotes a.field.now a.at b h c.if-c-eq38.true (ap letter (sym c.byte-next.ensures) ∙ (sym c.letter.ensures ∙ c.if-letter.true)) c.symbol_end-end.result c.slot_byte.result
    c.symbol_end-end.ensures.value (search rules) c.slot_byte.ensures

pub returns-then-c-eq38 : goal.returns-then-c-eq38
returns-then-c-eq38 c =
    let a = c.args in
    let b : Before = before_of a.before in
    let f : Bytes → ℕ = slot_byte a.names.own.now a.names.global.now a.names.shared.now in
    let h : a.at < length a.field.now = search rules in
    lone-piece f a.quotes a.field.now a.at b h c.if-c-eq38.true (λ e. c.if-next-eq38.false (c.byte-next.ensures ∙ e)) (ap letter (sym c.byte-next.ensures) ∙ (sym c.letter.ensures ∙ c.if-letter.false))

pub returns-then-is_mark : goal.returns-then-is_mark
returns-then-is_mark c =
    let a = c.args in
    let b : Before = before_of a.before in
    let f : Bytes → ℕ = slot_byte a.names.own.now a.names.global.now a.names.shared.now in
    let h : a.at < length a.field.now = search rules in
    mark-piece f a.quotes a.field.now a.at b h c.if-c-eq38.false (ap (λ (m : ℕ). is_mark b (get_or a.field.now a.at 0) (m ∷ [])) (sym c.byte-next.ensures) ∙ (sym c.is_mark.ensures ∙ c.if-is_mark.true))

pub returns-then-c-eq39 : goal.returns-then-c-eq39
returns-then-c-eq39 c =
    let a = c.args in
    let b : Before = before_of a.before in
    let f : Bytes → ℕ = slot_byte a.names.own.now a.names.global.now a.names.shared.now in
    let h : a.at < length a.field.now = search rules in
    quote-piece f a.quotes a.field.now a.at b h c.if-c-eq38.false (ap (λ (m : ℕ). is_mark b (get_or a.field.now a.at 0) (m ∷ [])) (sym c.byte-next.ensures) ∙ (sym c.is_mark.ensures ∙ c.if-is_mark.false)) c.if-c-eq39.true

pub returns : goal.returns
returns c =
    let a = c.args in
    let b : Before = before_of a.before in
    let f : Bytes → ℕ = slot_byte a.names.own.now a.names.global.now a.names.shared.now in
    let h : a.at < length a.field.now = search rules in
    byte-piece f a.quotes a.field.now a.at b h c.if-c-eq38.false (ap (λ (m : ℕ). is_mark b (get_or a.field.now a.at 0) (m ∷ [])) (sym c.byte-next.ensures) ∙ (sym c.is_mark.ensures ∙ c.if-is_mark.false)) c.if-c-eq39.false
