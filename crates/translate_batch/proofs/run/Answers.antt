-- Each turn is a step of the run, and the last one ends it.
use Rattle.std.proofs.Common.{◌≡◌, length, arith}
use Rattle.translate_batch.proofs.Runs.{starts, turn, last, never, if_some}
use Rattle.translate_batch.proofs.run.Goals as goal

pub loop-init : goal.loop-init
loop-init g c = λ whole p. starts whole (length c.args.deck.now) (g.W.Write.contents c.args.output.now) (g.E.Write.contents c.args.errors.now) c.args.window.now (g.R.Read.remaining c.args.input.now) p

pub loop-preserved : goal.loop-preserved
loop-preserved g c = λ whole p.
    let r = c.loop.invariant whole p in
    let deck : length c.loop.deck ≡ length c.args.deck.now = omega arith in
    turn whole (length c.args.deck.now) _ _ c.loop.counter _ _ _ _ _ _ _ _ _ _ r (length c.loop.deck) c.in_ok-next.field-0 c.in-Some.next deck c.in-Some.is (c.in_ok-next.ensures whole r.place r.stands)

pub returns-in-None : goal.returns-in-None
returns-in-None g c =
    if_some (g.R.Read.remaining c.args.input.now) _ λ whole p small.
    let r = c.loop.invariant whole p in
    let deck : length c.loop.deck ≡ length c.args.deck.now = omega arith in
    let window : length c.step.new.window ≡ length c.args.window.now = omega arith in
    last whole (length c.args.deck.now) _ _ c.loop.counter _ _ _ _ _ _ _ _ _ _ r (length c.loop.deck) c.in_ok-next.field-0 (length c.args.window.now) deck c.in-None.is window (c.in_ok-next.ensures whole r.place r.stands)

pub returns : goal.returns
returns g c =
    if_some (g.R.Read.remaining c.args.input.now) _ λ whole p small.
    absurd (never whole (length c.args.deck.now) _ _ c.loop.counter _ _ _ _ _ _ (c.loop.invariant whole p) small (omega arith))
