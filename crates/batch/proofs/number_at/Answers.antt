-- `batch::number_at` meets its contract: going on from here gives the number. Assumes nothing.
use borrow.Author.Rules.{rules}
use Prim.Native.Nat.{◌+◌, ◌<◌}
use native.Mathlib.Omega.{arith}
use mathlib.Core.Path.{◌≡◌, refl, ap, sym, ◌∙◌}
use mathlib.Core.Bool.{true, false}
use lib.ListN.{length, get_or}
use Rattle.text.specs.Characters.{digit}
use Rattle.batch.proofs.Numbers.{read-inside, digit-bounds, onward-starts, onward-more, onward-over, onward-none, onward-other, onward-is}
use Rattle.batch.proofs.number_at.Goals as goal

pub loop-n-init : goal.loop-n-init
loop-n-init c = (search rules, omega arith, onward-starts _ _ _)

pub bounds-input-i : goal.bounds-input-i
bounds-input-i c =
    let input = c.args.input.now in
    let i = c.loop-n.i in
    let is : digit (get_or input i 0) ≡ true = ap digit (sym c.byte.ensures) ∙ (sym c.digit.ensures ∙ c.loop-n-test.true) in
    let few = digit-bounds (get_or input i 0) is in
    let inside : i < length input = read-inside input i refl (omega (arith, few.0)) in
    inside

pub overflow_sub-n : goal.overflow_sub-n
overflow_sub-n c =
    let input = c.args.input.now in
    let i = c.loop-n.i in
    let is : digit (get_or input i 0) ≡ true = ap digit (sym c.byte.ensures) ∙ (sym c.digit.ensures ∙ c.loop-n-test.true) in
    let few = digit-bounds (get_or input i 0) is in
    let inside : i < length input = read-inside input i refl (omega (arith, few.0)) in
    few.0

pub overflow_add-n : goal.overflow_add-n
overflow_add-n c =
    let input = c.args.input.now in
    let i = c.loop-n.i in
    let is : digit (get_or input i 0) ≡ true = ap digit (sym c.byte.ensures) ∙ (sym c.digit.ensures ∙ c.loop-n-test.true) in
    let few = digit-bounds (get_or input i 0) is in
    let inside : i < length input = read-inside input i refl (omega (arith, few.0)) in
    omega (arith, few)

pub returns-then-n-gt999999999999999999 : goal.returns-then-n-gt999999999999999999
returns-then-n-gt999999999999999999 c =
    let input = c.args.input.now in
    let i = c.loop-n.i in
    let is : digit (get_or input i 0) ≡ true = ap digit (sym c.byte.ensures) ∙ (sym c.digit.ensures ∙ c.loop-n-test.true) in
    let few = digit-bounds (get_or input i 0) is in
    let inside : i < length input = read-inside input i refl (omega (arith, few.0)) in
    sym (c.loop-n.invariant.2 ∙ (onward-more _ input _ c.loop-n.n i inside is ∙ onward-over _ input _ _ (i + 1) c.if-n-gt999999999999999999.true))

pub overflow_add-i : goal.overflow_add-i
overflow_add-i c =
    let input = c.args.input.now in
    let i = c.loop-n.i in
    let is : digit (get_or input i 0) ≡ true = ap digit (sym c.byte.ensures) ∙ (sym c.digit.ensures ∙ c.loop-n-test.true) in
    let few = digit-bounds (get_or input i 0) is in
    let inside : i < length input = read-inside input i refl (omega (arith, few.0)) in
    omega (arith, inside)

pub loop-n-smaller : goal.loop-n-smaller
loop-n-smaller c =
    let input = c.args.input.now in
    let i = c.loop-n.i in
    let is : digit (get_or input i 0) ≡ true = ap digit (sym c.byte.ensures) ∙ (sym c.digit.ensures ∙ c.loop-n-test.true) in
    let few = digit-bounds (get_or input i 0) is in
    let inside : i < length input = read-inside input i refl (omega (arith, few.0)) in
    omega (arith, inside)

pub loop-n-preserved : goal.loop-n-preserved
loop-n-preserved c =
    let input = c.args.input.now in
    let i = c.loop-n.i in
    let is : digit (get_or input i 0) ≡ true = ap digit (sym c.byte.ensures) ∙ (sym c.digit.ensures ∙ c.loop-n-test.true) in
    let few = digit-bounds (get_or input i 0) is in
    let inside : i < length input = read-inside input i refl (omega (arith, few.0)) in
    (omega arith, c.if-n-gt999999999999999999.false, c.loop-n.invariant.2 ∙ onward-more _ input _ c.loop-n.n i inside is)

pub returns-then-i-at : goal.returns-then-i-at
returns-then-i-at c =
    let input = c.args.input.now in
    let i = c.loop-n.i in
    let at = c.args.at in
    let stop = c.args.stop in
    let none : digit (get_or input i 0) ≡ false = ap digit (sym c.byte.ensures) ∙ (sym c.digit.ensures ∙ c.loop-n-test.false) in
    sym (c.loop-n.invariant.2 ∙ onward-none stop input at c.loop-n.n i c.loop-n.invariant.1 none c.if-i-at.true)

pub returns-then-byte-stop : goal.returns-then-byte-stop
returns-then-byte-stop c =
    let input = c.args.input.now in
    let i = c.loop-n.i in
    let at = c.args.at in
    let stop = c.args.stop in
    let none : digit (get_or input i 0) ≡ false = ap digit (sym c.byte.ensures) ∙ (sym c.digit.ensures ∙ c.loop-n-test.false) in
    sym (c.loop-n.invariant.2 ∙ onward-other stop input at c.loop-n.n i c.loop-n.invariant.1 none c.if-i-at.false (λ e. c.if-byte-stop.true (c.byte-2.ensures ∙ e)))

pub overflow_add-result : goal.overflow_add-result
overflow_add-result c =
    let input = c.args.input.now in
    let some : 0 < c.args.stop = search rules in
    let inside : c.loop-n.i < length input = read-inside input c.loop-n.i (sym c.if-byte-stop.false ∙ c.byte-2.ensures) some in
    omega (arith, inside)

pub returns : goal.returns
returns c =
    let input = c.args.input.now in
    let i = c.loop-n.i in
    let at = c.args.at in
    let stop = c.args.stop in
    let none : digit (get_or input i 0) ≡ false = ap digit (sym c.byte.ensures) ∙ (sym c.digit.ensures ∙ c.loop-n-test.false) in
    sym (c.loop-n.invariant.2 ∙ onward-is stop input at c.loop-n.n i c.loop-n.invariant.1 none c.if-i-at.false (sym c.byte-2.ensures ∙ c.if-byte-stop.false))
