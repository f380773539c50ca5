-- `bodies::put_body_line` meets its contract, by what the line is. Assumes nothing.
use Prim.Native.Nat.{◌+◌, ◌≤◌}
use native.Mathlib.Omega.{arith}
use mathlib.Core.Path.{ap, sym, ◌∙◌, subst}
use lib.ListN.{length}
use Rattle.text.specs.Bytes.{Bytes}
use Rattle.lent.specs.Splice.{splice}
use Rattle.bodies.proofs.Written.{copied-bytes, dropped-bytes, statement-bytes}
use Rattle.bodies.proofs.put_body_line.Goals as goal

pub put_remark-requires : goal.put_remark-requires
put_remark-requires c =
    let a = c.args in
    let is = copied-bytes a.names.own.now a.names.global.now a.names.shared.now a.body.now a.line.now (sym c.is_copied_remark.ensures ∙ c.if-is_copied_remark.true) in
    let room = subst (λ (t : Bytes). a.at + length t ≤ length a.out.now) is c.requires.line_in_bounds in
    (omega (arith, c.requires.ready.short), room)

pub returns-then-is_copied_remark : goal.returns-then-is_copied_remark
returns-then-is_copied_remark c =
    let a = c.args in
    let is = copied-bytes a.names.own.now a.names.global.now a.names.shared.now a.body.now a.line.now (sym c.is_copied_remark.ensures ∙ c.if-is_copied_remark.true) in
    let e = c.put_remark.ensures in
    record { value = e.value ∙ ap (λ (t : Bytes). a.at + length t) (sym is); out_after = e.out_after ∙ ap (splice a.out.now a.at) (sym is) }

pub put_remark-requires-then-is_dropped_remark : goal.put_remark-requires-then-is_dropped_remark
put_remark-requires-then-is_dropped_remark c =
    let a = c.args in
    let is = dropped-bytes a.names.own.now a.names.global.now a.names.shared.now a.body.now a.line.now (sym c.is_copied_remark.ensures ∙ c.if-is_copied_remark.false) (sym c.is_dropped_remark.ensures ∙ c.if-is_dropped_remark.true) in
    let room = subst (λ (t : Bytes). a.at + length t ≤ length a.out.now) is c.requires.line_in_bounds in
    (omega (arith, c.requires.ready.short), room)

pub returns-then-is_dropped_remark : goal.returns-then-is_dropped_remark
returns-then-is_dropped_remark c =
    let a = c.args in
    let is = dropped-bytes a.names.own.now a.names.global.now a.names.shared.now a.body.now a.line.now (sym c.is_copied_remark.ensures ∙ c.if-is_copied_remark.false) (sym c.is_dropped_remark.ensures ∙ c.if-is_dropped_remark.true) in
    let e = c.put_remark-then-is_dropped_remark.ensures in
    record { value = e.value ∙ ap (λ (t : Bytes). a.at + length t) (sym is); out_after = e.out_after ∙ ap (splice a.out.now a.at) (sym is) }

pub put_statement-requires : goal.put_statement-requires
put_statement-requires c =
    let a = c.args in
    let is = statement-bytes a.names.own.now a.names.global.now a.names.shared.now a.body.now a.line.now (sym c.is_copied_remark.ensures ∙ c.if-is_copied_remark.false) (sym c.is_dropped_remark.ensures ∙ c.if-is_dropped_remark.false) in
    let room = subst (λ (t : Bytes). a.at + length t ≤ length a.out.now) is c.requires.line_in_bounds in
    record { ready = c.requires.ready; line_in_bounds = room }

pub returns : goal.returns
returns c =
    let a = c.args in
    let is = statement-bytes a.names.own.now a.names.global.now a.names.shared.now a.body.now a.line.now (sym c.is_copied_remark.ensures ∙ c.if-is_copied_remark.false) (sym c.is_dropped_remark.ensures ∙ c.if-is_dropped_remark.false) in
    let e = c.put_statement.ensures in
    record { value = e.value ∙ ap (λ (t : Bytes). a.at + length t) (sym is); out_after = e.out_after ∙ ap (splice a.out.now a.at) (sym is) }
