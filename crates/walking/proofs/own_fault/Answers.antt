-- `walking::own_fault` meets its contract: the tests of a line, by the place where the walk stands. Assumes nothing.
use native.Mathlib.Omega.{arith}
use Rattle.walking.proofs.Lines.{outer_told, prototype-told, body-told, line-there, body-rows}
use Rattle.walking.proofs.own_fault.Goals as goal

pub slice_bounds-line-count : goal.slice_bounds-line-count
slice_bounds-line-count c = let h = line-there _ _ _ _ _ _ _ _ c.requires.0 in omega (arith, h.0)

pub slice_bounds-line-start : goal.slice_bounds-line-start
slice_bounds-line-start c = let h = line-there _ _ _ _ _ _ _ _ c.requires.0 in omega (arith, h.0)

pub slice_bounds-line-end : goal.slice_bounds-line-end
slice_bounds-line-end c = let h = line-there _ _ _ _ _ _ _ _ c.requires.0 in omega (arith, h.1)

pub returns-in-Outer : goal.returns-in-Outer
returns-in-Outer c = λ a f. outer_told _ _ _ _ _ _ _ _ a f _ c.in-Outer.is c.outer_fault.ensures

pub returns-in-Prototype : goal.returns-in-Prototype
returns-in-Prototype c = λ a f. prototype-told _ _ _ _ _ _ _ _ a f _ c.in-Prototype.is c.prototype_fault.ensures

pub overflow_sub-locals : goal.overflow_sub-locals
overflow_sub-locals c = let h = body-rows _ _ _ _ _ _ _ _ c.requires.0 _ c.in-Inner.is in omega (arith, h.1.0)

pub overflow_mul-theirs : goal.overflow_mul-theirs
overflow_mul-theirs c = let h = body-rows _ _ _ _ _ _ _ _ c.requires.0 _ c.in-Inner.is in omega (arith, h.1.1.1.0)

pub slice_bounds-names-end-in-Inner : goal.slice_bounds-names-end-in-Inner
slice_bounds-names-end-in-Inner c =
    let h = body-rows _ _ _ _ _ _ _ _ c.requires.0 _ c.in-Inner.is in
    let n = c.requires.0.walked.sizes.global-size in
    omega (arith, h.1.1.1.0, n)

pub returns-in-Inner : goal.returns-in-Inner
returns-in-Inner c = λ a f. body-told _ _ _ _ _ _ _ _ a f _ c.in-Inner.is _ c.requires.0.in-file c.requires.0.end_is c.body_fault.ensures
