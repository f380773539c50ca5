-- `call_keywords::given_at` meets its contract: the parts from the place that is reached give the value if all do. Assumes nothing.
use Rattle.std.proofs.Common.{map, arith, refl, ap, sym, ◌∙◌}
use Rattle.rules.specs.Machine.{keyword_value}
use Rattle.parts.specs.Parts.{parts_left}
use Rattle.call_operands.specs.Calling.{keyword_in}
use Rattle.call_keywords.specs.Defaults.{given_from, value_between}
use Rattle.call_keywords.proofs.Known.{stands, value-there, value-behind}
use Rattle.call_keywords.proofs.given_at.Goals as goal

pub loop-part-init : goal.loop-part-init
loop-part-init c = (ap parts_left c.into_iter-part-iterator.ensures.into_iter_gives ∙ c.at-part-items.ensures, λ default. refl)

pub overflow_add-end : goal.overflow_add-end
overflow_add-end c =
    let h = stands c.args.operand.now c.loop-part.at _ _ (sym c.loop-part.invariant.0 ∙ c.in-Some.ensures.steps) in
    omega (arith, h.inside)

pub overflow_add-result : goal.overflow_add-result
overflow_add-result c =
    let h = stands c.args.operand.now c.loop-part.at _ _ (sym c.loop-part.invariant.0 ∙ c.in-Some.ensures.steps) in
    omega (arith, h.inside, c.bare_at-cut.ensures.lower_bound)

pub overflow_add-result-then-equal : goal.overflow_add-result-then-equal
overflow_add-result-then-equal c =
    let h = stands c.args.operand.now c.loop-part.at _ _ (sym c.loop-part.invariant.0 ∙ c.in-Some.ensures.steps) in
    omega (arith, h.inside, c.bare_at-cut.ensures.lower_bound)

pub returns-then-equal : goal.returns-then-equal
unfolding given_from value_between
returns-then-equal c =
    let s = c.args.operand.now in
    let first = sym c.loop-part.invariant.0 ∙ c.in-Some.ensures.steps in
    λ default.
    value-there s c.loop-part.at _ _ first _ c.bare_at-cut.ensures.value c.args.name.now default c.equal.ensures c.if-equal.true ∙ sym (c.loop-part.invariant.1 default)

pub overflow_add-at : goal.overflow_add-at
overflow_add-at c =
    let h = stands c.args.operand.now c.loop-part.at _ _ (sym c.loop-part.invariant.0 ∙ c.in-Some.ensures.steps) in
    omega (arith, h.inside)

pub loop-part-preserved : goal.loop-part-preserved
loop-part-preserved c =
    let s = c.args.operand.now in
    let first = sym c.loop-part.invariant.0 ∙ c.in-Some.ensures.steps in
    let h = stands s c.loop-part.at _ _ first in (
      sym h.behind,
      λ default.
          c.loop-part.invariant.1 default
          ∙ value-behind s c.loop-part.at _ _ first _ c.bare_at-cut.ensures.value c.args.name.now default c.equal.ensures c.if-equal.false,
    )

pub returns : goal.returns
unfolding given_from value_between keyword_value
returns c =
    λ default.
    sym (c.loop-part.invariant.1 default ∙ ap (λ ps. keyword_value c.args.name.now default (map keyword_in ps)) (sym c.loop-part.invariant.0 ∙ c.in-None.ensures.steps.0))
