-- `answers::put_digits` meets its contract: the digits of the rest before those that stand are those of the number. Assumes nothing.
use Prim.Native.Nat.{◌≤◌}
use mathlib.Core.Path.{◌≡◌, ap, sym, ◌∙◌}
use native.Mathlib.Omega.{arith}
use lib.ListN.{length, drop, length-set, drop_of_length-le}
use Rattle.rules.specs.Values.{decimal}
use Rattle.answers.specs.Answers.{decimal_of}
use Rattle.answers.proofs.Writing.{last-digit, next-digit, no_digit}
use Rattle.answers.proofs.put_digits.Goals as goal

pub loop-i-init : goal.loop-i-init
unfolding decimal_of
loop-i-init c = let short : length c.args.bytes.now ≤ 20 = omega arith in ap (decimal 20 c.args.n) (drop_of_length-le c.args.bytes.now short)

pub returns-then-rest-lt10 : goal.returns-then-rest-lt10
returns-then-rest-lt10 c =
    let size : c.loop-i.i ≤ length c.loop-i.bytes = omega arith in
    (last-digit _ _ _ c.loop-i-test.true size c.if-rest-lt10.true ∙ c.loop-i.invariant, (omega arith, simp length-set (omega arith)))

pub loop-i-preserved : goal.loop-i-preserved
loop-i-preserved c =
    let size : c.loop-i.i ≤ length c.loop-i.bytes = omega arith in
    next-digit _ _ _ c.loop-i-test.true size c.if-rest-lt10.false ∙ c.loop-i.invariant

pub returns : goal.returns
returns c =
    let none : c.loop-i.i ≡ 0 = omega arith in
    (ap (λ n. drop n c.loop-i.bytes) (sym none) ∙ no_digit _ _ _ (omega arith) ∙ c.loop-i.invariant, (omega arith, omega arith))
