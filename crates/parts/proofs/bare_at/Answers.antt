-- `parts::bare_at` meets its contract: the scan that goes on from here, with what it has seen, stops where the text is cut. Assumes nothing.
use Prim.Native.Nat.{◌+◌, ◌≤◌}
use native.Mathlib.Omega.{arith}
use mathlib.Core.Path.{◌≡◌, refl, ap, sym, ◌∙◌}
use lib.ListN.{length, get_or}
use Rattle.rules.specs.Lexemes.{field_start, outside}
use Rattle.fields.specs.Seen.{before_of, inside_of, seen_after}
use Rattle.parts.specs.Parts.{bare_here, bare_at}
use Rattle.parts.proofs.Scan.{stops_from, scan-end, scan-stop, scan-on}
use Rattle.parts.proofs.bare_at.Goals as goal

pub loop-i-init : goal.loop-i-init
unfolding bare_at stops_from inside_of before_of outside field_start
loop-i-init c = (omega arith, omega arith, refl)

pub returns-then-is_bare-clause-value : goal.returns-then-is_bare-clause-value
returns-then-is_bare-clause-value c =
    let a = c.args in
    let l = a.s.now in
    let i = c.loop-i.i in
    let bare = ap (bare_here a.c c.loop-i.seen (get_or l i 0)) (sym c.byte-next.ensures) ∙ (sym c.is_bare.ensures ∙ c.if-is_bare.true) in
    sym (c.loop-i.invariant.2 ∙ scan-stop a.c l i c.loop-i.seen c.loop-i-test.true bare)

pub seen_after-seen-requires : goal.seen_after-seen-requires
seen_after-seen-requires c = omega (arith, c.loop-i.invariant.0, c.loop-i-test.true, c.loop-i.auto.i-end)

pub loop-i-preserved : goal.loop-i-preserved
loop-i-preserved c =
    let a = c.args in
    let l = a.s.now in
    let i = c.loop-i.i in
    let next = c.byte-next.ensures in
    let on = ap (bare_here a.c c.loop-i.seen (get_or l i 0)) (sym next) ∙ (sym c.is_bare.ensures ∙ c.if-is_bare.false) in (
      omega (arith, c.seen_after-seen.ensures.1, c.loop-i.invariant.0),
      omega (arith, c.loop-i-test.true),
      c.loop-i.invariant.2 ∙ (scan-on a.c l i c.loop-i.seen c.loop-i-test.true on
          ∙ (ap (λ n. stops_from a.c l (i + 1) (seen_after c.loop-i.seen (get_or l i 0) n)) (sym next)
          ∙ ap (stops_from a.c l (i + 1)) (sym c.seen_after-seen.ensures.0))),
    )

pub returns-clause-value : goal.returns-clause-value
returns-clause-value c =
    let a = c.args in
    let end : length a.s.now ≤ c.loop-i.i = omega (arith, c.loop-i-test.false) in
    let there : c.max.result ≡ c.loop-i.i = omega (arith, c.max.ensures, c.loop-i.auto.i, end, c.loop-i.invariant.1) in
    there ∙ sym (c.loop-i.invariant.2 ∙ scan-end a.c a.s.now c.loop-i.i c.loop-i.seen end)
