-- `put_macro` meets its contract: the tables hold the macro's names when its lines have declared them. Assumes nothing.
use mathlib.Core.Path.{refl}
use Rattle.collecting.proofs.Bodies.{sizes-as}
use Rattle.macros.proofs.Members.{prototype-fits}
use Rattle.macros.proofs.Tables.{started, body-room, collected, tabled, macro-done}
use borrow.Author.Rules.{rules}
use Rattle.macros.proofs.put_macro.Goals as goal

pub declare_prototype-parameters-requires : goal.declare_prototype-parameters-requires
declare_prototype-parameters-requires c =
    let h = c.requires in
    let a = c.args in
    prototype-fits h.member a.own.now a.kinds.now h.lent.sizes.own-size h.lent.sizes.kinds-size

pub declare_body-rows-requires : goal.declare_body-rows-requires
declare_body-rows-requires c =
    let h = c.requires in
    let a = c.args in
    let p = c.declare_prototype-parameters.ensures in
    body-room h.member h.holds _ _ _ p.value a.global.now
    (sizes-as a.own.now a.global.now a.shared.now a.kinds.now _ _ _ _ h.lent.sizes (search rules) refl refl (search rules))

pub put_tables-requires : goal.put_tables-requires
put_tables-requires c =
    let h = c.requires in
    let a = c.args in
    let p = c.declare_prototype-parameters.ensures in
    let s = started h.member h.holds _ _ _ p.value a.global.now p.starts in
    let d = collected h.member h.holds _ _ _ _ _ _ _ _ _ _ s c.declare_body-rows.ensures in
    tabled h.member h.holds d a.body.now refl _ p.value
    (sizes-as a.own.now a.global.now a.shared.now a.kinds.now _ _ _ _ h.lent.sizes (search rules) (search rules) (search rules) (search rules))
    a.code.now a.out.now a.at h.lent.codes h.room

pub returns : goal.returns
returns c =
    let h = c.requires in
    let a = c.args in
    let p = c.declare_prototype-parameters.ensures in
    let s = started h.member h.holds _ _ _ p.value a.global.now p.starts in
    let d = collected h.member h.holds _ _ _ _ _ _ _ _ _ _ s c.declare_body-rows.ensures in
    let whole = macro-done h.member h.holds d a.body.now refl _ p.value a.out.now _ a.at _ c.put_tables.ensures in record { value = whole.0; out_after = whole.1.0; holds = whole.1.1 }
