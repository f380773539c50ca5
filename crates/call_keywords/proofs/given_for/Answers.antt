-- `call_keywords::given_for` meets its contract: the parts still to come give the value if all do. Assumes nothing.
use Rattle.std.proofs.Common.{map, ap, sym, ◌∙◌}
use Rattle.text.specs.Bytes.{same}
use Rattle.rules.specs.Machine.{keyword_value}
use Rattle.call_operands.specs.Calling.{keyword_in}
use Rattle.call_keywords.specs.Defaults.{given_by, value_by}
use Rattle.call_keywords.proofs.Known.{value_found, value_on}
use Rattle.call_keywords.proofs.given_for.Goals as goal

pub returns-then-equal : goal.returns-then-equal
unfolding value_by
returns-then-equal c =
    let name = c.args.name.now in
    let pair = c.keyword_in.ensures in
    λ default.
    ap (λ k. k.1) pair
    ∙ (value_found c.in-Some.part.now c.in-Some.ensures.steps name default (c.equal.ensures ∙ ap (λ k. same k.0 name) pair) c.if-equal.true
    ∙ (sym (c.loop-part.invariant default) ∙ ap (λ p. keyword_value name default (given_by p)) c.into_iter-part-iterator.ensures.into_iter_gives))

pub loop-part-preserved : goal.loop-part-preserved
loop-part-preserved c =
    let name = c.args.name.now in
    λ default.
    c.loop-part.invariant default
    ∙ value_on c.in-Some.part.now c.in-Some.ensures.steps name default (c.equal.ensures ∙ ap (λ k. same k.0 name) c.keyword_in.ensures) c.if-equal.false

pub returns : goal.returns
unfolding value_by keyword_value
returns c =
    let name = c.args.name.now in
    λ default.
    sym
    (ap (λ p. keyword_value name default (given_by p)) (sym c.into_iter-part-iterator.ensures.into_iter_gives)
    ∙ (c.loop-part.invariant default ∙ ap (λ ps. keyword_value name default (map keyword_in ps)) c.in-None.ensures.steps.0))
