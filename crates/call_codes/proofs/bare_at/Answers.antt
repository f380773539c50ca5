use Prim.Native.Nat.{◌+◌, ◌≤◌}
use native.Mathlib.Omega.{arith}
use mathlib.Core.Path.{◌≡◌, refl, ap, sym, ◌∙◌}
use lib.ListN.{length}
use Rattle.rules.specs.Lexemes.{outside}
use Rattle.fields.specs.Seen.{inside_of, seen_after}
use Rattle.parts.specs.Parts.{bare_here}
use Rattle.call_codes.specs.Codes.{cut_at}
use Rattle.call_codes.proofs.Scanned.{stops_from, scan-end, scan-stop, scan-on}
use Rattle.call_codes.proofs.bare_at.Goals as goal

pub loop-i-init : goal.loop-i-init
unfolding cut_at stops_from inside_of outside
loop-i-init c = (omega arith, omega arith, refl)

pub returns-then-is_bare-clause-value : goal.returns-then-is_bare-clause-value
returns-then-is_bare-clause-value c =
    let a = c.args in
    let bare = ap (λ d. bare_here a.c c.loop-i.seen d 0) (sym c.text_of-d.ensures) ∙ (sym c.is_bare.ensures ∙ c.if-is_bare.true) in
    sym (c.loop-i.invariant.2 ∙ scan-stop a.code.now c.loop-i.i c.loop-i.seen c.loop-i-test.true a.c bare)

pub seen_after-seen-requires : goal.seen_after-seen-requires
seen_after-seen-requires c = omega (arith, c.loop-i.invariant.0, c.loop-i-test.true, c.loop-i.auto.i-end)

pub loop-i-preserved : goal.loop-i-preserved
loop-i-preserved c =
    let a = c.args in
    let l = a.code.now in
    let i = c.loop-i.i in
    let d = c.text_of-d.ensures in
    let on = ap (λ n. bare_here a.c c.loop-i.seen n 0) (sym d) ∙ (sym c.is_bare.ensures ∙ c.if-is_bare.false) in (
      omega (arith, c.seen_after-seen.ensures.1, c.loop-i.invariant.0),
      omega (arith, c.loop-i-test.true),
      c.loop-i.invariant.2 ∙ (scan-on l i c.loop-i.seen c.loop-i-test.true a.c on
          ∙ (ap (λ n. stops_from a.c l (i + 1) (seen_after c.loop-i.seen n 0)) (sym d)
          ∙ ap (stops_from a.c l (i + 1)) (sym c.seen_after-seen.ensures.0))),
    )

pub returns-clause-value : goal.returns-clause-value
returns-clause-value c =
    let a = c.args in
    let end : length a.code.now ≤ c.loop-i.i = omega (arith, c.loop-i-test.false) in
    let there : c.max.result ≡ c.loop-i.i = omega (arith, c.max.ensures, c.loop-i.auto.i, end, c.loop-i.invariant.1) in
    there ∙ sym (c.loop-i.invariant.2 ∙ scan-end a.code.now c.loop-i.i c.loop-i.seen a.c end)
