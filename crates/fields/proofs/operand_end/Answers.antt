-- `fields::operand_end` meets its contract: the scan that goes on from here, with what it has seen, stops where the operand ends. Assumes nothing.
use borrow.Author.Rules.{rules}
use Prim.Native.Nat.{◌+◌, ◌<◌}
use native.Mathlib.Omega.{arith}
use mathlib.Core.Path.{◌≡◌, refl, ap, sym, ◌∙◌}
use lib.ListN.{length, get_or}
use Rattle.rules.specs.Lexemes.{field_start, outside}
use Rattle.rules.specs.Fields.{operand_end}
use Rattle.fields.specs.Seen.{before_of, inside_of, seen_after}
use Rattle.fields.specs.Cuts.{operand_end_at}
use Rattle.fields.proofs.Scan.{stops_from, scan-end, scan-stop, scan-on}
use Rattle.fields.proofs.operand_end.Goals as goal

pub loop-i-init : goal.loop-i-init
unfolding operand_end_at operand_end stops_from inside_of before_of outside field_start
loop-i-init c = (omega arith, omega arith, refl)

pub returns-then-closes_field : goal.returns-then-closes_field
returns-then-closes_field c =
    let a = c.args in
    let lt : c.loop-i.i < length a.line.now = search rules in
    record { value = sym (c.loop-i.invariant.2 ∙ scan-stop a.holds a.line.now c.loop-i.i c.loop-i.seen lt (sym c.closes_field.ensures ∙ c.if-closes_field.true)); lower_bound = search rules }

pub loop-i-preserved : goal.loop-i-preserved
loop-i-preserved c =
    let a = c.args in
    let lt : c.loop-i.i < length a.line.now = search rules in (
      omega (arith, lt, c.loop-i.auto.i),
      omega (arith, c.seen_after-seen.ensures.1, c.loop-i.invariant.1),
      c.loop-i.invariant.2 ∙ (scan-on a.holds a.line.now c.loop-i.i c.loop-i.seen lt (sym c.closes_field.ensures ∙ c.if-closes_field.false)
          ∙ (ap (λ n. stops_from a.holds a.line.now (c.loop-i.i + 1) (seen_after c.loop-i.seen (get_or a.line.now c.loop-i.i 0) n)) (sym c.byte.ensures)
          ∙ ap (stops_from a.holds a.line.now (c.loop-i.i + 1)) (sym c.seen_after-seen.ensures.0))),
    )

pub returns-clause-value : goal.returns-clause-value
returns-clause-value c =
    let a = c.args in
    let end : c.max.result ≡ c.loop-i.i = omega (arith, c.max.ensures, c.loop-i-test.false, c.loop-i.auto.i, c.loop-i.invariant.0) in
    end ∙ sym (c.loop-i.invariant.2 ∙ scan-end a.holds a.line.now c.loop-i.i c.loop-i.seen c.loop-i-test.false)
