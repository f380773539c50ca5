use Prim.Native.Nat.{◌+◌, ◌*◌}
use mathlib.Core.Path.{refl, ap, sym, ◌∙◌}
use native.Mathlib.Omega.{arith}
use lib.ListN.{drop}
use lib.IntN.{pos}
use mir.Syntax.{w32}
use mir.ValLaws.{to_z_pos}
use Rattle.rules.specs.Values.{within, spelt}
use Rattle.grammar.proofs.Numbers.{digit-bounds}
use Rattle.value_sums.proofs.Answers.{option-some, option-none}
use Rattle.value_sums.proofs.Numbers.{digit-there, digits-behind, spelt-on, spelt-over, spelt-ends}
use Rattle.value_sums.proofs.spelt.Goals as goal

pub loop-c-init : goal.loop-c-init
loop-c-init c = (omega arith, c.requires, refl)

pub overflow_mul-number : goal.overflow_mul-number
overflow_mul-number c = let few = c.loop-c.invariant.0 in omega arith

pub overflow_sub-c : goal.overflow_sub-c
overflow_sub-c c = (digit-bounds _ (digit-there _ _ c.loop-c-test.true c.loop-c.invariant.1)).0

pub overflow_add-number : goal.overflow_add-number
overflow_add-number c = let few = c.loop-c.invariant.0 in let high = (digit-bounds _ (digit-there _ _ c.loop-c-test.true c.loop-c.invariant.1)).1 in omega arith

pub returns-then-number-gt2147483647 : goal.returns-then-number-gt2147483647
returns-then-number-gt2147483647 c = option-none ∙ sym (ap (λ n. within (pos n)) (sym c.loop-c.invariant.2 ∙ spelt-on _ _ c.loop-c-test.true _ ∙ ap (λ d. spelt (c.loop-c.number * 10 + d) (drop (c.loop-c.c-index + 1) c.args.digits.now)) (sym c.from.ensures)) ∙ spelt-over _ _ c.if-number-gt2147483647.true)

pub loop-c-preserved : goal.loop-c-preserved
loop-c-preserved c = (c.if-number-gt2147483647.false, digits-behind _ _ c.loop-c-test.true c.loop-c.invariant.1, ap (λ d. spelt (c.loop-c.number * 10 + d) (drop (c.loop-c.c-index + 1) c.args.digits.now)) c.from.ensures ∙ sym (spelt-on _ _ c.loop-c-test.true _) ∙ c.loop-c.invariant.2)

pub overflow_cast-result : goal.overflow_cast-result
overflow_cast-result c = let few = c.loop-c.invariant.0 in omega arith

pub returns : goal.returns
returns c = let few = c.loop-c.invariant.0 in rw (to_z_pos w32 c.loop-c.number (omega arith)) (option-some _ ∙ sym (ap (λ n. within (pos n)) (sym c.loop-c.invariant.2) ∙ spelt-ends _ _ _ c.loop-c-test.false few))
