use Prim.Native.Nat.{◌+◌}
use native.Mathlib.Omega.{arith}
use mathlib.Core.Path.{ap, sym, ◌∙◌}
use Rattle.rules.specs.Lexemes.{closing}
use Rattle.fields.specs.Seen.{seen_after, nothing_seen}
use Rattle.parts.specs.Parts.{bare_here}
use Rattle.call_codes.proofs.Scanned.{pairs_from, pairs_start, pairs_end, pairs-stop, pairs-on}
use Rattle.call_codes.proofs.pairs_up.Goals as goal

pub loop-b-init : goal.loop-b-init
unfolding nothing_seen
loop-b-init c = (omega arith, pairs_start c.args.code.now)

pub returns-then-is_bare : goal.returns-then-is_bare
returns-then-is_bare c =
    let bare = ap (λ d. bare_here closing c.loop-b.seen d 0) (sym c.text_of-d.ensures) ∙ (sym c.is_bare.ensures ∙ c.if-is_bare.true) in
    sym (c.loop-b.invariant.1 ∙ pairs-stop c.args.code.now c.loop-b.b-index c.loop-b.seen c.loop-b-test.true bare)

pub seen_after-seen-requires : goal.seen_after-seen-requires
seen_after-seen-requires c = omega (arith, c.loop-b.invariant.0, c.loop-b-test.true)

pub loop-b-preserved : goal.loop-b-preserved
loop-b-preserved c =
    let l = c.args.code.now in
    let i = c.loop-b.b-index in
    let d = c.text_of-d.ensures in
    let on = ap (λ n. bare_here closing c.loop-b.seen n 0) (sym d) ∙ (sym c.is_bare.ensures ∙ c.if-is_bare.false) in (
      omega (arith, c.seen_after-seen.ensures.1, c.loop-b.invariant.0),
      c.loop-b.invariant.1 ∙ (pairs-on l i c.loop-b.seen c.loop-b-test.true on
          ∙ (ap (λ n. pairs_from l (i + 1) (seen_after c.loop-b.seen n 0)) (sym d)
          ∙ ap (pairs_from l (i + 1)) (sym c.seen_after-seen.ensures.0))),
    )

pub returns : goal.returns
returns c =
    let l = c.args.code.now in
    sym (c.loop-b.invariant.1 ∙ pairs_end l c.loop-b.b-index c.loop-b.seen (omega (arith, c.loop-b-test.false)))
