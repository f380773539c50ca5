use lib.Seq.{drop-nil}
use Rattle.std.proofs.Common.{◌≡◌, ◌+◌, ◌-◌, drop, arith, ap, sym, ◌∙◌}
use Rattle.std.proofs.lemmas.List.{drop-drop}
use Rattle.call_operands.proofs.Walk.{one-less}
use Rattle.call_operands.proofs.behind.Goals as goal

pub loop-preserved : goal.loop-preserved
loop-preserved g c =
    one-less g.P.Divides.lexemes g.P.Divides.left _ _ _ c.next_part.ensures ∙ (ap (drop 1) c.loop.invariant ∙ drop-drop 1 c.loop.counter (g.P.Divides.left c.args.parts))

-- behind the last part there is none, however many more are asked for
pub returns-in_default : goal.returns-in_default
returns-in_default g c =
    let e = c.in_default.ensures in
    let more = c.args.number - c.loop.counter in
    let whole : c.loop.counter + more ≡ c.args.number = omega (arith, c.loop-test.true) in
    e.1 ∙ sym (drop-nil more) ∙ ap (drop more) (sym e.0 ∙ c.loop.invariant) ∙ drop-drop more c.loop.counter (g.P.Divides.left c.args.parts) ∙ ap (λ n. drop n (g.P.Divides.left c.args.parts)) whole

pub returns : goal.returns
returns g c =
    let all : c.loop.counter ≡ c.args.number = omega (arith, c.loop-test.false, c.loop.auto.counter-end) in
    c.loop.invariant ∙ ap (λ n. drop n (g.P.Divides.left c.args.parts)) all
