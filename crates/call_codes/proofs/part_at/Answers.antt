-- `part_at` meets its contract: behind each comma that is passed, one part fewer is left. Assumes nothing.
use lib.Seq.{drop-nil}
use Rattle.std.proofs.Common.{◌≡◌, ◌+◌, ◌-◌, ◌≤◌, length, drop, arith, ap, sym, ◌∙◌}
use Rattle.std.proofs.lemmas.List.{drop-drop}
use borrow.Author.Tests.{eqb-true, eqb-false}
use Rattle.rules.specs.Calls.{divided}
use Rattle.call_codes.specs.Codes.{lexemes}
use Rattle.call_codes.proofs.Cutting.{parts-none, all_rest, rest-done, rest-on}
use Rattle.call_codes.proofs.part_at.Goals as goal

pub returns-then-is_empty-clause-result_value : goal.returns-then-is_empty-clause-result_value
returns-then-is_empty-clause-result_value c =
    let a = c.args in
    let z = eqb-true _ _ (sym c.is_empty.ensures ∙ c.if-is_empty.true) in
    rest-done a.code.now 1 (omega (arith, z)) ∙ sym (ap (drop a.number) (parts-none a.code.now z) ∙ drop-nil a.number)

pub loop-part-init : goal.loop-part-init
loop-part-init c =
    (omega arith, sym (all_rest c.args.code.now (eqb-false _ _ (sym c.is_empty.ensures ∙ c.if-is_empty.false))))

-- behind the last part there is none, however many more are asked for
pub returns-then-code-at-clause-result_value : goal.returns-then-code-at-clause-result_value
returns-then-code-at-clause-result_value c =
    let a = c.args in
    let ps = divided (lexemes a.code.now) in
    let none = rest-done a.code.now c.loop-part.at c.if-code-at.true in
    let more = a.number - c.loop-part._part in
    let whole : c.loop-part._part + more ≡ a.number = omega (arith, c.loop-part-test.true) in
    none ∙ sym (drop-nil more) ∙ ap (drop more) (sym none ∙ c.loop-part.invariant.1) ∙ drop-drop more c.loop-part._part ps ∙ ap (λ n. drop n ps) whole

pub returns-then-code-at-clause-upper_bound : goal.returns-then-code-at-clause-upper_bound
returns-then-code-at-clause-upper_bound c = c.loop-part.invariant.0

pub loop-part-preserved : goal.loop-part-preserved
loop-part-preserved c =
    let s = c.args.code.now in
    let e = c.bare_at-at.ensures in
    let le : c.loop-part.at ≤ length s = omega (arith, c.if-code-at.false) in (
      omega (arith, e.lower_bound.1, le),
      sym (ap (drop 1) (rest-on s c.loop-part.at c.bare_at-at.result le e.value)) ∙ ap (drop 1) c.loop-part.invariant.1 ∙ drop-drop 1 c.loop-part._part (divided (lexemes s)),
    )

pub returns-clause-result_value : goal.returns-clause-result_value
returns-clause-result_value c =
    let all : c.loop-part._part ≡ c.args.number = omega (arith, c.loop-part-test.false, c.loop-part.auto._part-end) in
    c.loop-part.invariant.1 ∙ ap (λ n. drop n (divided (lexemes c.args.code.now))) all

pub returns-clause-upper_bound : goal.returns-clause-upper_bound
returns-clause-upper_bound c = c.loop-part.invariant.0
