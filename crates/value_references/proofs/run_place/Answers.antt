use Prim.Native.Nat.{◌+◌}
use mathlib.Core.Path.{◌≡◌, ap, sym, ◌∙◌}
use native.Mathlib.Omega.{arith}
use lib.ListN.{get_or}
use Rattle.value_references.specs.Referring.{run_place}
use Rattle.value_references.proofs.Standing.{run-first, run-next}
use Rattle.value_references.proofs.run_place.Goals as goal

pub loop-init : goal.loop-init
loop-init c = (run-first _ _, omega arith, omega arith)

pub overflow_add-here : goal.overflow_add-here
overflow_add-here c = let a = c.loop.invariant.1 in let t = c.loop-test.true in omega arith

pub overflow_add-here-in-loop : goal.overflow_add-here-in-loop
overflow_add-here-in-loop c = let a = c.loop.invariant.1 in let t = c.loop-test.true in let b = c.byte.type_inv in let e = c.from.ensures in omega arith

pub loop-preserved : goal.loop-preserved
loop-preserved c =
    let a = c.loop.invariant.1 in
    let t = c.loop-test.true in
    let b = c.byte.type_inv in
    let e = c.from.ensures in
    (ap (λ k. c.loop.here + 1 + k) (c.from.ensures ∙ c.byte.ensures) ∙ ap (λ h. h + 1 + get_or c.args.work.now h 0) c.loop.invariant.0 ∙ sym (run-next _ _ _), omega arith, omega arith)

pub returns : goal.returns
returns c = let a = c.loop.invariant.1 in let few = c.loop.invariant.2 in let end = c.loop-test.false in let all : c.loop.counter ≡ c.args.n = omega arith in (c.loop.invariant.0 ∙ ap (run_place c.args.work.now c.args.at) all, omega arith)
