-- `put_field` meets its contract: what finishing from here writes is what is to be written. Assumes nothing.
use borrow.Author.Rules.{rules}
use Prim.Native.Nat.{ℕ, ◌+◌, ◌≤◌}
use native.Mathlib.Omega.{arith}
use mathlib.Core.Path.{◌≡◌, refl, ap, sym, ◌∙◌}
use mathlib.Core.List.{[]}
use lib.ListN.{length, drop}
use Rattle.text.specs.Bytes.{Bytes}
use Rattle.rules.specs.Lexemes.{Before}
use Rattle.names.specs.Names.{slot_byte}
use Rattle.lent.specs.Splice.{splice}
use Rattle.lent.proofs.Writes.{splice-length}
use Rattle.coding.specs.Coded.{codes_from, before_of, Leads}
use Rattle.coding.specs.declared.Piece.{Piece}
use Rattle.coding.proofs.Writes.{from_start, codes-end, leads-size, leads-splice}
use Rattle.coding.proofs.put_field.Goals as goal

pub loop-at-init : goal.loop-at-init
loop-at-init c =
    let a = c.args in
    let e = from_start a.quotes a.names.own.now a.names.global.now a.names.shared.now a.field.now in
    (search rules, refl, search rules, ap (λ (s : Bytes). a.from + length s) e, ap (splice a.out.now a.from) e)

pub fill-requires : goal.fill-requires
fill-requires c =
    let a = c.args in
    let f : Bytes → ℕ = slot_byte a.names.own.now a.names.global.now a.names.shared.now in
    let before : Before = before_of c.loop-at.before in
    let p : Piece = c.piece_at-piece.result in
    let l : Leads f a.quotes a.field.now c.loop-at.at before p = c.piece_at-piece.ensures in
    omega arith

pub overflow_add-to : goal.overflow_add-to
overflow_add-to c =
    let a = c.args in
    let f : Bytes → ℕ = slot_byte a.names.own.now a.names.global.now a.names.shared.now in
    let before : Before = before_of c.loop-at.before in
    let p : Piece = c.piece_at-piece.result in
    let l : Leads f a.quotes a.field.now c.loop-at.at before p = c.piece_at-piece.ensures in
    let room : c.loop-at.to + p.count ≤ length a.out.now = omega arith in
    search rules

pub loop-at-smaller : goal.loop-at-smaller
loop-at-smaller c =
    let a = c.args in
    let f : Bytes → ℕ = slot_byte a.names.own.now a.names.global.now a.names.shared.now in
    let before : Before = before_of c.loop-at.before in
    let p : Piece = c.piece_at-piece.result in
    let l : Leads f a.quotes a.field.now c.loop-at.at before p = c.piece_at-piece.ensures in
    omega arith

pub loop-at-preserved : goal.loop-at-preserved
loop-at-preserved c =
    let a = c.args in
    let f : Bytes → ℕ = slot_byte a.names.own.now a.names.global.now a.names.shared.now in
    let before : Before = before_of c.loop-at.before in
    let p : Piece = c.piece_at-piece.result in
    let l : Leads f a.quotes a.field.now c.loop-at.at before p = c.piece_at-piece.ensures in
    let e = c.fill.ensures in (
      l.inside,
      ap length e ∙ (splice-length _ _ _ ∙ c.loop-at.invariant.1),
      omega arith,
      omega (arith, leads-size f a.quotes a.field.now c.loop-at.at before p l),
      leads-splice f a.quotes a.field.now c.loop-at.at before p l c.loop-at.out _ c.loop-at.to e ∙ c.loop-at.invariant.4,
    )

pub returns : goal.returns
unfolding splice
returns c =
    let a = c.args in
    let f : Bytes → ℕ = slot_byte a.names.own.now a.names.global.now a.names.shared.now in
    let before : Before = before_of c.loop-at.before in
    let none : codes_from f a.quotes before (drop c.loop-at.at a.field.now) ≡ [] = codes-end f a.quotes a.field.now c.loop-at.at before (search rules) in
    record { value = omega (arith, ap length none); out_after = sym (ap (splice c.loop-at.out c.loop-at.to) none) ∙ c.loop-at.invariant.4 }
