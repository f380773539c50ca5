-- `part_at` meets its contract: behind each comma that is passed, one part fewer is left. Assumes nothing.
use lib.Seq.{drop-nil}
use Rattle.std.proofs.Common.{rules, ◌≡◌, ◌+◌, ◌-◌, ◌<◌, ◌≤◌, length, drop, arith, ap, sym, ◌∙◌}
use Rattle.std.proofs.lemmas.List.{drop-drop}
use Rattle.parts.specs.Parts.{parts_of}
use Rattle.parts.proofs.Divided.{parts-done, parts-on, parts_none, parts-start}
use Rattle.call_operands.proofs.part_at.Goals as goal

pub returns-then-is_empty-clause-result_value : goal.returns-then-is_empty-clause-result_value
returns-then-is_empty-clause-result_value c =
    let a = c.args in
    let z : length a.operand.now ≤ 0 = search rules in
    parts-done a.operand.now 1 (omega (arith, z)) ∙ sym (ap (drop a.number) (parts_none a.operand.now z) ∙ drop-nil a.number)

pub loop-part-init : goal.loop-part-init
loop-part-init c =
    let z : 0 < length c.args.operand.now = search rules in
    (omega arith, sym (parts-start c.args.operand.now z))

-- behind the last part there is none, however many more are asked for
pub returns-then-operand-at-clause-result_value : goal.returns-then-operand-at-clause-result_value
returns-then-operand-at-clause-result_value c =
    let a = c.args in
    let ps = parts_of a.operand.now in
    let none = parts-done a.operand.now c.loop-part.at c.if-operand-at.true in
    let more = a.number - c.loop-part._part in
    let whole : c.loop-part._part + more ≡ a.number = omega (arith, c.loop-part-test.true) in
    none ∙ sym (drop-nil more) ∙ ap (drop more) (sym none ∙ c.loop-part.invariant.1) ∙ drop-drop more c.loop-part._part ps ∙ ap (λ n. drop n ps) whole

pub returns-then-operand-at-clause-upper_bound : goal.returns-then-operand-at-clause-upper_bound
returns-then-operand-at-clause-upper_bound c = c.loop-part.invariant.0

pub loop-part-preserved : goal.loop-part-preserved
loop-part-preserved c =
    let s = c.args.operand.now in
    let e = c.bare_at-at.ensures in
    let le : c.loop-part.at ≤ length s = omega (arith, c.if-operand-at.false) in (
      omega (arith, e.lower_bound.1, le),
      sym (ap (drop 1) (parts-on s c.loop-part.at c.bare_at-at.result le e.value)) ∙ ap (drop 1) c.loop-part.invariant.1 ∙ drop-drop 1 c.loop-part._part (parts_of s),
    )

pub returns-clause-result_value : goal.returns-clause-result_value
returns-clause-result_value c =
    let all : c.loop-part._part ≡ c.args.number = omega (arith, c.loop-part-test.false, c.loop-part.auto._part-end) in
    c.loop-part.invariant.1 ∙ ap (λ n. drop n (parts_of c.args.operand.now)) all

pub returns-clause-upper_bound : goal.returns-clause-upper_bound
returns-clause-upper_bound c = c.loop-part.invariant.0
