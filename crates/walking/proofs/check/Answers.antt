-- `walking::check` meets its contract: the walk stands where the rules stand, line for line. Assumes nothing.
use native.Mathlib.Omega.{arith}
use mathlib.Core.Path.{refl, ap, sym, ◌∙◌}
use Rattle.refusals.specs.Numbers.{number_by}
use Rattle.labels.proofs.Turns.{past-within}
use Rattle.walking.proofs.Passing.{before-apart, inner-apart}
use Rattle.walking.proofs.Ends.{starts, is-faulty, is-ready, is-accepted, are-listed, is-missing}
use Rattle.walking.proofs.check.Goals as goal

pub loop-walk-init : goal.loop-walk-init
loop-walk-init c = (starts _ _ _ _ _ _ c.requires.0, refl, refl, refl, refl, refl, refl)

pub returns-in-Some : goal.returns-in-Some
returns-in-Some c =
    let w = c.loop-walk.invariant.0 in
    record {
      result_value = is-faulty _ _ _ _ _ _ _ w _ c.loop-walk-test.true c.line_end-end.ensures.value c.in-Some.found (ap number_by (sym c.in-Some.is) ∙ c.fault.ensures w.around w.follows);
      lists = tt;
    }

pub pass-walk-requires : goal.pass-walk-requires
pass-walk-requires c =
    let w = c.loop-walk.invariant.0 in
    is-ready _ _ _ _ _ _ _ w _ c.loop-walk-test.true c.line_end-end.ensures.value (ap number_by (sym c.in-None.is) ∙ c.fault.ensures w.around w.follows)

pub loop-walk-smaller : goal.loop-walk-smaller
loop-walk-smaller c =
    let e = c.pass-walk.ensures.at_value in
    let w = past-within _ _ _ c.loop-walk-test.true c.line_end-end.ensures.value in
    omega (arith, e, w.0, w.1)

pub returns-in-Outer : goal.returns-in-Outer
returns-in-Outer c =
    let w = c.loop-walk.invariant.0 in
    record { result_value = is-accepted _ _ _ _ _ _ _ w c.loop-walk-test.false c.in-Outer.is; lists = are-listed _ _ _ _ _ _ _ w c.loop-walk-test.false }

pub returns-in-Prototype : goal.returns-in-Prototype
returns-in-Prototype c = record { result_value = is-missing _ _ _ _ _ _ _ c.loop-walk.invariant.0 c.loop-walk-test.false (before-apart c.in-Prototype.is); lists = tt }

pub returns-in-Inner : goal.returns-in-Inner
returns-in-Inner c = record { result_value = is-missing _ _ _ _ _ _ _ c.loop-walk.invariant.0 c.loop-walk-test.false (inner-apart c.in-Inner.is); lists = tt }
