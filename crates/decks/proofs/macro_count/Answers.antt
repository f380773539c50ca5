use Rattle.std.proofs.Common.{rules, arith, refl, sym, ◌<◌, ◌^◌, length}
use native.Mathlib.Nat.{zero-add}
use Rattle.decks.proofs.Outside.{outside-start}
use Rattle.decks.proofs.Turns.{stands-on, outside-on, count-on, count_none}
use Rattle.decks.proofs.macro_count.Goals as goal

pub loop-found-init : goal.loop-found-init
loop-found-init c = record { few = omega arith; outside = outside-start c.args.library.now c.requires; all = sym (zero-add _) }

pub overflow_add-count : goal.overflow_add-count
overflow_add-count c =
    let size : length c.args.library.now < 2 ^ 64 = search rules in
    omega (arith, c.loop-found.invariant.few, (stands-on c.in-Some.ensures).1, size)

pub loop-found-smaller : goal.loop-found-smaller
loop-found-smaller c = let on = stands-on c.in-Some.ensures in omega (arith, on.0, on.1)

pub loop-found-preserved : goal.loop-found-preserved
loop-found-preserved c =
    let i = c.loop-found.invariant in
    let h = c.in-Some.ensures in
    record {
      few = omega (arith, (stands-on h).0, i.few);
      outside = outside-on h.found h.inside i.outside;
      all = omega (arith, i.all, count-on h.found h.inside i.outside);
    }

pub returns : goal.returns
returns c = omega (arith, c.loop-found.invariant.all, count_none c.args.library.now c.loop-found.at _ refl c.in_default.ensures)
