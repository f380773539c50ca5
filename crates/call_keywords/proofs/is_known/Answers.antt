use Prim.Native.Nat.{◌+◌, ◌-◌, ◌<◌}
use native.Mathlib.Nat.{sub-zero}
use native.Mathlib.Omega.{arith}
use mathlib.Core.Path.{◌≡◌, ap, sym, ◌∙◌}
use Rattle.text.specs.Bytes.{same}
use Rattle.rules.specs.Calls.{is_among}
use Rattle.call_keywords.specs.Defaults.{keywords_at}
use Rattle.call_keywords.proofs.Known.{among-stop, among-on, among_none}
use Rattle.call_keywords.proofs.is_known.Goals as goal

pub loop-init : goal.loop-init
loop-init c =
    let a = c.args in
    (omega (arith, c.requires), ap (λ n. is_among a.name.now (keywords_at a.deck.now a.at n)) (sym (sub-zero a.count)))

pub returns-then-equal : goal.returns-then-equal
returns-then-equal c =
    let a = c.args in
    let more : 0 < a.count - c.loop.counter = omega (arith, c.loop-test.true) in
    sym (c.loop.invariant.1 ∙ among-stop a.deck.now a.name.now c.loop.place (a.count - c.loop.counter) more (c.equal.ensures ∙ ap (λ s. same s a.name.now) c.run_at.ensures) c.if-equal.true)

pub loop-preserved : goal.loop-preserved
loop-preserved c =
    let a = c.args in
    let more : 0 < a.count - c.loop.counter = omega (arith, c.loop-test.true) in
    let less : a.count - c.loop.counter - 1 ≡ a.count - (c.loop.counter + 1) = omega (arith, more) in
    let d = c.run_end-default.ensures in
    let p = c.run_end-place.ensures in (
      omega (arith, c.loop.invariant.0, more, d.1, p.1),
      c.loop.invariant.1
          ∙ (among-on a.deck.now a.name.now c.loop.place (a.count - c.loop.counter) more (c.equal.ensures ∙ ap (λ s. same s a.name.now) c.run_at.ensures) c.if-equal.false d.0 p.0
          ∙ ap (λ n. is_among a.name.now (keywords_at a.deck.now c.run_end-place.result n)) less),
    )

pub returns : goal.returns
returns c =
    let a = c.args in
    sym (c.loop.invariant.1 ∙ among_none a.deck.now a.name.now c.loop.place (a.count - c.loop.counter) (omega (arith, c.loop-test.false)))
