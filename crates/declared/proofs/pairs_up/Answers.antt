-- `declared::pairs_up` meets its contract: from here on, with what was seen, quotes and parentheses pair as in the whole. Assumes nothing.
use Prim.Native.Nat.{◌+◌}
use native.Mathlib.Omega.{arith}
use mathlib.Core.Path.{ap, sym, ◌∙◌}
use lib.ListN.{get_or}
use Rattle.rules.specs.Lexemes.{closing}
use Rattle.fields.specs.Seen.{seen_after, nothing_seen}
use Rattle.parts.specs.Parts.{bare_here}
use Rattle.declared.proofs.Pairs.{pairs_from, pairs_start, pairs_end, pairs-stop, pairs-on}
use Rattle.declared.proofs.pairs_up.Goals as goal

pub loop-i-init : goal.loop-i-init
unfolding nothing_seen
loop-i-init c = (omega arith, pairs_start c.args.s.now)

pub returns-then-is_bare : goal.returns-then-is_bare
returns-then-is_bare c =
    let l = c.args.s.now in
    let i = c.loop-i.i in
    let bare = ap (bare_here closing c.loop-i.seen (get_or l i 0)) (sym c.byte-next.ensures) ∙ (sym c.is_bare.ensures ∙ c.if-is_bare.true) in
    sym (c.loop-i.invariant.1 ∙ pairs-stop l i c.loop-i.seen c.loop-i-test.true bare)

pub loop-i-preserved : goal.loop-i-preserved
loop-i-preserved c =
    let l = c.args.s.now in
    let i = c.loop-i.i in
    let next = c.byte-next.ensures in
    let on = ap (bare_here closing c.loop-i.seen (get_or l i 0)) (sym next) ∙ (sym c.is_bare.ensures ∙ c.if-is_bare.false) in (
      omega (arith, c.seen_after-seen.ensures.1, c.loop-i.invariant.0),
      c.loop-i.invariant.1 ∙ (pairs-on l i c.loop-i.seen c.loop-i-test.true on
          ∙ (ap (λ n. pairs_from l (i + 1) (seen_after c.loop-i.seen (get_or l i 0) n)) (sym next)
          ∙ ap (pairs_from l (i + 1)) (sym c.seen_after-seen.ensures.0))),
    )

pub returns : goal.returns
returns c =
    let l = c.args.s.now in
    sym (c.loop-i.invariant.1 ∙ pairs_end l c.loop-i.i c.loop-i.seen (omega (arith, c.loop-i-test.false)))
