-- Shapes with a choice in them, by what the choice's test says. Assumes nothing.
use Prim.Native.Nat.{ℕ, ◌+◌, ◌-◌, min}
use mathlib.Core.Path.{◌≡◌, ap, sym, ◌∙◌}
use mathlib.Core.Bool.{Bool, true, false}
use borrow.Author.Tests.{eq-eqb, ne_eqb}
use Rattle.rules.proofs.Choices.{chosen, passed_over}
use Rattle.kinds.specs.declared.Does.TheVariants.{Models, BranchesIf}
use Rattle.shapes.specs.declared.Codes.{Codes as Ends}
use Rattle.shapes.specs.declared.Shape.{Shape as Kept}
use Rattle.shapes.specs.Shapes.{branching_if, modelling}

module _ (e : Ends) where
  abbrev pub model : ℕ → Kept
  model n = record { does = Models; name = n; operation = e.name; gap = e.operation; operand = e.operation; rest = e.operand; end = e.operand }

  pub unnamed-model : {label : Bool} → label ≡ true → model 0 ≡ modelling label e
  unnamed-model h = ap model (sym (chosen 0 e.name h))

  pub named-model : {label : Bool} → label ≡ false → model e.name ≡ modelling label e
  named-model h = ap model (sym (passed_over 0 e.name h))

  abbrev pub branch : ℕ → ℕ → Kept
  branch rest end = record { does = BranchesIf; name = 0; operation = e.name; gap = e.name; operand = e.operation; rest = rest; end = end }

  module _ (k m : ℕ) (least : m ≡ min k (e.operand - e.operation)) where
    abbrev rest : ℕ
    rest = e.operation + min k (e.operand - e.operation)

    pub no-condition : k ≡ 0 → branch (e.operation + m) (e.operation + m) ≡ branching_if k e
    no-condition h = ap (λ (n : ℕ). branch (e.operation + n) (e.operation + n)) least ∙ ap (branch rest) (sym (chosen rest e.operand (eq-eqb k 0 h)))

    pub condition : (k ≡ 0 → ⊥) → branch (e.operation + m) e.operand ≡ branching_if k e
    condition h = ap (λ (n : ℕ). branch (e.operation + n) e.operand) least ∙ ap (branch rest) (sym (passed_over rest e.operand (ne_eqb k 0 h)))
