-- `add_global` meets its contract: a global that is there, or one more. Assumes nothing.
use Rattle.std.proofs.Common.{refl, arith, ap, sym, ◌∙◌, ◌+◌}
use lib.ListN.{set}
use Rattle.deck.specs.Coders.{set_code}
use Rattle.kinds.specs.Kinds.{set_of}
use Rattle.filling.proofs.Adding.{kind-number, adds-known, adds-new}
use Rattle.filling.proofs.add_global.Goals as goal

pub returns-then-place-rows : goal.returns-then-place-rows
returns-then-place-rows c =
    let a = c.args in
    record { upper_bound = omega arith; adds = adds-known _ a.shared.now a.kinds.now a.rows a.name.now refl _ c.place.ensures c.if-place-rows.true }

pub returns : goal.returns
returns c =
    let a = c.args in
    let k = set_of a.set in
    let number = ap (set a.kinds.now (64 + a.rows)) (c.number_of.ensures ∙ sym (kind-number k (set_code k) refl)) in
    record {
      upper_bound = omega arith;
      adds = adds-new (set_code k) a.shared.now a.kinds.now a.rows a.name.now refl _ c.place.ensures c.if-place-rows.false _ _ c.declare.ensures number c.requires.0 c.requires.1.1 c.requires.1.0;
    }
