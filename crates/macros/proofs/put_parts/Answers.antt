-- `put_parts` meets its contract: the head, the kinds and the lines, each where the one before it ends. Assumes nothing.
use native.Mathlib.Omega.{arith}
use Rattle.writing.proofs.Writes.{kept-length}
use Rattle.macros.proofs.Parts.{parts-length, kinds-length, parts-done}
use Rattle.macros.proofs.put_parts.Goals as goal

pub put_header-head-requires : goal.put_header-head-requires
put_header-head-requires c =
    let h = c.requires in
    let a = c.args in
    let n = parts-length a.prototype.now h.locals a.names.own.now a.names.global.now a.names.shared.now a.body.now in
    (h.short, (h.no-remark, omega (arith, h.room, n)))

pub put_kinds-end-requires : goal.put_kinds-end-requires
put_kinds-end-requires c =
    let h = c.requires in
    let a = c.args in
    let n = parts-length a.prototype.now h.locals a.names.own.now a.names.global.now a.names.shared.now a.body.now in
    let k = kinds-length a.prototype.now h.locals a.names.own.now a.names.global.now a.names.shared.now a.body.now a.kinds.now h.locals_are in
    let e = c.put_header-head.ensures in
    let l = kept-length a.out.now _ a.at _ e.out_after in
    (omega (arith, h.room, n, k, e.value, l), omega (arith, h.few))

pub put_body-requires : goal.put_body-requires
put_body-requires c =
    let h = c.requires in
    let a = c.args in
    let n = parts-length a.prototype.now h.locals a.names.own.now a.names.global.now a.names.shared.now a.body.now in
    let e = c.put_header-head.ensures in
    let l = kept-length a.out.now _ a.at _ e.out_after in
    let f = c.put_kinds-end.ensures h.locals h.locals_are in
    let m = kept-length _ _ _ _ f.1 in
    record { all_ready = h.lines; body_in_bounds = omega (arith, h.room, n, e.value, f.0, l, m) }

pub returns : goal.returns
returns c =
    let a = c.args in
    let e = c.put_header-head.ensures in
    let g = c.put_body.ensures in
    λ ks is.
    let f = c.put_kinds-end.ensures ks is in
    parts-done a.prototype.now ks a.names.own.now a.names.global.now a.names.shared.now a.body.now a.out.now _ _ _ a.at _ _ _ e.value f.0 g.value e.out_after f.1 g.out_after
