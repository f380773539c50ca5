-- `put_macros` meets its contract: what is written, and what is written of the macros from here on, are all. Assumes nothing.
use Rattle.std.proofs.Common.{rules, refl, arith}
use Rattle.decks.proofs.Turns.{stands-on}
use Rattle.macros.proofs.Loop.{going_start, none_found, writable, going_on, lent-as}
use Rattle.macros.proofs.put_macros.Goals as goal

pub loop-found-init : goal.loop-found-init
loop-found-init c =
    let a = c.args in
    record { own = refl; global = refl; shared = refl; kinds = refl; code = refl; out = refl; going = going_start a.library.now c.requires.library_value.0 a.globals a.at a.out.now a.shared.now a.kinds.now c.requires.library_value.1.1 }

pub put_macro-to-requires : goal.put_macro-to-requires
put_macro-to-requires c =
    let a = c.args in
    let b = c.loop-found in
    let i = b.invariant in
    writable a.library.now c.requires.library_value.0 a.globals a.at a.out.now _ _ _ b.next b.to i.going _ c.in-Some.ensures _ _ _
    (lent-as a.own.now a.global.now a.shared.now a.kinds.now a.code.now _ _ _ _ _ c.requires.library_value.1.0 i.own i.global i.shared i.kinds i.code)
    c.requires.library_in_bounds i.out

pub loop-found-smaller : goal.loop-found-smaller
loop-found-smaller c = let on = stands-on c.in-Some.ensures in omega (arith, on.0, on.1)

pub loop-found-preserved : goal.loop-found-preserved
loop-found-preserved c =
    let a = c.args in
    let b = c.loop-found in
    record {
      own = search rules;
      global = search rules;
      shared = search rules;
      kinds = search rules;
      code = search rules;
      out = search rules;
      going = going_on a.library.now c.requires.library_value.0 a.globals a.at a.out.now _ _ _ b.next b.to b.invariant.going _ c.in-Some.ensures _ _ _ _ (c.put_macro-to.ensures.value, (c.put_macro-to.ensures.out_after, c.put_macro-to.ensures.holds));
    }

pub returns : goal.returns
returns c =
    let a = c.args in
    let b = c.loop-found in
    let whole = none_found a.library.now c.requires.library_value.0 a.globals a.at a.out.now _ _ _ b.next b.to b.invariant.going _ refl c.in_default.ensures in
    record { value = whole.0; out_after = whole.1 }
