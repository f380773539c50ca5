-- The values that ACTR may have. Assumes nothing.
use Prim.Native.Nat.{ℕ}
use mathlib.Core.Path.{◌≡◌, refl, sym, ap, ◌∙◌, subst}
use mathlib.Core.Bool.{true, false, true≢false}
use native.Mathlib.Omega.{arith}
use lib.IntN.{ℤ, pos, negsuc, nat_abs}
use lib.Signed.{lt_z}
use borrow.Author.Tests.{ltb-true, ltb-false, le-leb, lt-leb}
use Rattle.rules.specs.Limits.{bad_value, counter_limit}
use Rattle.rules.specs.Decide.{renew, refuse, renewed}
use Rattle.rules.proofs.Choices.{chosen, passed_over}
use Rattle.expand_steps.specs.Moving.{Arm}
use Rattle.expand_steps.specs.declared.Run.{Run}
use Rattle.expand_steps.specs.declared.Stepped.{Stepped}

below : (left : ℕ) (z : ℤ) → lt_z z (pos 0) ≡ true → renewed left z ≡ refuse bad_value left
unfolding renewed
below left (pos n) h = absurd (omega (arith, ltb-true n 0 h))
below left (negsuc n) h = refl

above : (left : ℕ) (z : ℤ) → lt_z (pos 4096) z ≡ true → renewed left z ≡ refuse bad_value left
unfolding renewed
above left (pos n) h = passed_over _ _ (lt-leb n counter_limit (omega (arith, ltb-true 4096 n h)))
above left (negsuc n) h = refl

within : (left : ℕ) (z : ℤ) → lt_z z (pos 0) ≡ false → lt_z (pos 4096) z ≡ false → renewed left z ≡ renew (nat_abs z)
unfolding renewed
within left (pos n) h k = chosen _ _ (le-leb n counter_limit (omega (arith, ltb-false 4096 n k)))
within left (negsuc n) h k = absurd (true≢false h)

module _ (run : Run) (r : Stepped) (z : ℤ) where
  pub counts-below : lt_z z (pos 0) ≡ true → ((left : ℕ) → Arm run (refuse bad_value left) r) → (left : ℕ) → Arm run (renewed left z) r
  counts-below h a left = subst (λ x. Arm run x r) (sym (below left z h)) (a left)

  pub counts-above : lt_z (pos 4096) z ≡ true → ((left : ℕ) → Arm run (refuse bad_value left) r) → (left : ℕ) → Arm run (renewed left z) r
  counts-above h a left = subst (λ x. Arm run x r) (sym (above left z h)) (a left)

  pub counts-within : lt_z z (pos 0) ≡ false → lt_z (pos 4096) z ≡ false → (n : ℕ) → n ≡ nat_abs z → Arm run (renew n) r → (left : ℕ) → Arm run (renewed left z) r
  counts-within h k n e a left = subst (λ x. Arm run x r) (sym (within left z h k ∙ ap renew (sym e))) a
