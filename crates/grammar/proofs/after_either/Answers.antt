use Prim.Native.Nat.{ℕ, ◌<◌}
use native.Mathlib.Omega.{arith}
use mathlib.Core.Path.{◌≡◌, refl, sym, ◌∙◌}
use mathlib.Core.Bool.{Bool, true, false, ◌||◌}
use mathlib.Core.List.{[], ◌∷◌}
use lib.Dec.{eqb}
use borrow.Author.Tests.{eqb-true}
use Rattle.text.specs.Bytes.{member}
use Rattle.rules.proofs.Choices.{by, chosen, passed_over}
use Rattle.grammar.proofs.Places.{text-inside}
use Rattle.grammar.proofs.after_either.Goals as goal

or-member : {c d : ℕ} (a b : ℕ) {t : Bool} → c ≡ d → (eqb c a || eqb c b) ≡ t → member d (a ∷ b ∷ []) ≡ t
or-member {c} a b e is = rw (← e) (go (eqb c a) (eqb c b) ∙ is)
  where
    go : (p q : Bool) → (p || (q || false)) ≡ (p || q)
    go true q = refl
    go false true = refl
    go false false = refl

or-some : (c a b : ℕ) → (eqb c a || eqb c b) ≡ true → 0 < a → 0 < b → 0 < c
or-some c a b is x y = by (eqb c a)
    (λ e. let same = eqb-true c a e in omega arith)
    (λ e. let same = eqb-true c b (rw e at is) in omega arith)

pub overflow_add-result : goal.overflow_add-result
overflow_add-result c = let a = c.args in let inside = text-inside [] _ _ _ (c.text_at-c.ensures []) (or-some _ a.a a.b c.if-c-a.true c.requires.0 c.requires.1) in omega arith

pub returns-then-c-a : goal.returns-then-c-a
returns-then-c-a c = λ kinds. sym (chosen _ _ (or-member _ _ (c.text_at-c.ensures kinds) c.if-c-a.true))

pub returns-else-c-a : goal.returns-else-c-a
returns-else-c-a c = λ kinds. sym (passed_over _ _ (or-member _ _ (c.text_at-c.ensures kinds) c.if-c-a.false))
