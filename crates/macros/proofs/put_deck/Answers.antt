-- `put_deck` meets its contract: the front, the macros behind it, and the count of both before them. Assumes nothing.
use Prim.Native.Nat.{◌+◌, ◌-◌}
use native.Mathlib.Omega.{arith}
use lib.ListN.{drop, length-take}
use Rattle.rules.specs.Library.{seconds}
use Rattle.deck.specs.Coding.{four}
use Rattle.macros.specs.Macros.{globals_of_library}
use Rattle.macros.proofs.Whole.{few-rows, front-kinds, count_fits, front-room, four-room, deck-done}
use Rattle.macros.proofs.put_deck.Goals as goal

pub overflow_add-past : goal.overflow_add-past
overflow_add-past c =
    let h = c.requires.library_value in
    let f = few-rows c.args.library.now h.0 h.1.1 in
    omega (arith, f)

pub slice_bounds-put_front-end : goal.slice_bounds-put_front-end
slice_bounds-put_front-end c =
    let h = c.requires.library_value in
    let f = few-rows c.args.library.now h.0 h.1.1 in
    omega (arith, f, h.1.0.sizes.kinds-size)

pub put_front-start-requires : goal.put_front-start-requires
put_front-start-requires c =
    let h = c.requires in
    let a = c.args in
    let f = few-rows a.library.now h.library_value.0 h.library_value.1.1 in
    let k = length-take (64 + a.globals - 64) (drop 64 a.kinds.now) in
    (omega (arith, f, k), (omega (arith, c.macro_count-count.ensures, count_fits a.library.now h.library_value.0), h.in_bounds))

pub put_macros-end-requires : goal.put_macros-end-requires
put_macros-end-requires c =
    let h = c.requires in
    let a = c.args in
    let l = a.library.now in
    let p = c.put_front-start.ensures (seconds (globals_of_library l)) (front-kinds l h.library_value.0 h.library_value.1.1) in
    record { library_value = h.library_value; library_in_bounds = front-room l h.library_value.0 a.out.now _ _ _ c.macro_count-count.ensures h.in_bounds p }

pub overflow_sub-end : goal.overflow_sub-end
overflow_sub-end c =
    let h = c.requires in
    let a = c.args in
    let l = a.library.now in
    let p = c.put_front-start.ensures (seconds (globals_of_library l)) (front-kinds l h.library_value.0 h.library_value.1.1) in
    omega (arith, p.0, c.put_macros-end.ensures.value)

pub put_four-requires : goal.put_four-requires
put_four-requires c =
    let h = c.requires in
    let a = c.args in
    let l = a.library.now in
    let p = c.put_front-start.ensures (seconds (globals_of_library l)) (front-kinds l h.library_value.0 h.library_value.1.1) in
    four-room l h.library_value.0 a.out.now _ _ _ _ _ c.macro_count-count.ensures h.in_bounds p (c.put_macros-end.ensures.value, c.put_macros-end.ensures.out_after)

pub returns : goal.returns
unfolding four
returns c =
    let h = c.requires in
    let a = c.args in
    let l = a.library.now in
    let p = c.put_front-start.ensures (seconds (globals_of_library l)) (front-kinds l h.library_value.0 h.library_value.1.1) in
    let whole = deck-done l h.library_value.0 a.out.now _ _ _ _ _ _ c.macro_count-count.ensures h.in_bounds p (c.put_macros-end.ensures.value, c.put_macros-end.ensures.out_after) c.put_four.ensures in record { value = whole.0; out_after = whole.1 }
