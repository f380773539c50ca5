use Rattle.std.proofs.Common.{rules, sym, ◌∙◌, ◌≡◌, ◌<◌, length, arith}
use Rattle.rules.proofs.Scanning.{run-end, run-stop, run_on}
use Rattle.lent.proofs.run_end.Goals as goal

pub returns-then-not-test-clause-value : goal.returns-then-not-test-clause-value
returns-then-not-test-clause-value g c p t =
    let lt : c.loop-i.i < length c.args.s.now = search rules in
    sym (c.loop-i.invariant.1 p t ∙ run-stop p c.args.s.now c.loop-i.i 0 lt (sym (t _ _ c.test.ensures) ∙ c.if-not-test.true))

pub loop-i-preserved : goal.loop-i-preserved
loop-i-preserved g c =
    let lt : c.loop-i.i < length c.args.s.now = search rules in
    (omega (arith, lt, c.loop-i.auto.i), λ p t. c.loop-i.invariant.1 p t ∙ run_on p c.args.s.now c.loop-i.i 0 lt (sym (t _ _ c.test.ensures) ∙ c.if-not-test.false))

pub returns-clause-value : goal.returns-clause-value
returns-clause-value g c p t =
    let end : c.max.result ≡ c.loop-i.i = omega (arith, c.max.ensures, c.loop-i-test.false, c.loop-i.auto.i, c.loop-i.invariant.0) in
    end ∙ sym (c.loop-i.invariant.1 p t ∙ run-end p c.args.s.now c.loop-i.i c.loop-i-test.false)
