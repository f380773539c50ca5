-- How a byte changes the number of open parentheses, case by case. Assumes nothing.
use Prim.Native.Nat.{ℕ, zero, suc, pred, ◌+◌, ◌-◌}
use native.Mathlib.Omega.{arith}
use mathlib.Core.Path.{◌≡◌, ◌∙◌}
use mathlib.Core.Bool.{true, false}
use borrow.Author.Tests.{eq-eqb, ne_eqb}
use Rattle.rules.specs.Lexemes.{opening, closing}
use Rattle.rules.proofs.Choices.{chosen, passed_over}
use Rattle.fields.specs.declared.Seen.{Seen as State}
use Rattle.fields.specs.Seen.{depth_after}

pred-is : (n : ℕ) → pred n ≡ n - 1
pred-is zero = omega arith
pred-is (suc n) = omega arith

module _ (s : State) (c : ℕ) where
  pub in-quotes : s.quoted ≡ true → depth_after s c ≡ s.depth
  unfolding depth_after
  in-quotes q = chosen _ _ q

  module _ (q : s.quoted ≡ false) where
    pub opens : c ≡ opening → depth_after s c ≡ s.depth + 1
    unfolding depth_after
    opens e = passed_over _ _ q ∙ (chosen _ _ (eq-eqb c opening e) ∙ omega arith)

    pub closes : (c ≡ opening → ⊥) → c ≡ closing → depth_after s c ≡ s.depth - 1
    unfolding depth_after
    closes d e = passed_over _ _ q ∙ (passed_over _ _ (ne_eqb c opening d) ∙ (chosen _ _ (eq-eqb c closing e) ∙ pred-is s.depth))

    pub stays : (c ≡ opening → ⊥) → (c ≡ closing → ⊥) → depth_after s c ≡ s.depth
    unfolding depth_after
    stays d e = passed_over _ _ q ∙ (passed_over _ _ (ne_eqb c opening d) ∙ passed_over _ _ (ne_eqb c closing e))
