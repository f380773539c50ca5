-- Two names exchanged: one for one, as is one renaming after another. Every renaming of finitely many names is made of such.
use mathlib.Core.Path.{◌≡◌, refl, ap, sym, ◌∙◌}
use mathlib.Core.Bool.{true}
use mathlib.Core.List.{[], ◌∷◌}
use borrow.Author.Tests.{eq-eqb}
use Rattle.text.specs.Bytes.{Bytes, same}
use Rattle.text.proofs.Same.{same-is}
use Rattle.rules.specs.Choice.{choose}
use Rattle.rules.proofs.Choices.{chosen, passed_over, either}
use Rattle.demands.specs.Renaming.{OneForOne}

pub same-itself : (n : Bytes) → same n n ≡ true
same-itself [] = refl
same-itself (c ∷ s) = rw (eq-eqb c c refl) (same-itself s)

unfoldable pub exchanged : Bytes → Bytes → Bytes → Bytes
exchanged a b n = choose (same a n) b (choose (same b n) a n)

exchanged-first : (a b : Bytes) → exchanged a b a ≡ b
unfolding exchanged
exchanged-first a b = chosen b _ (same-itself a)

exchanged-second : (a b : Bytes) → exchanged a b b ≡ a
unfolding exchanged
exchanged-second a b = either (λ n. n ≡ a) (same a b) (λ e. sym (same-is a b e)) (λ e. chosen a b (same-itself b))

twice-exchanged : (a b n : Bytes) → exchanged a b (exchanged a b n) ≡ n
unfolding exchanged
twice-exchanged a b n =
    either (λ m. exchanged a b m ≡ n) (same a n) (λ e. exchanged-second a b ∙ same-is a n e)
    (λ e. either (λ m. exchanged a b m ≡ n) (same b n) (λ f. exchanged-first a b ∙ same-is b n f)
    (λ f. passed_over b _ e ∙ passed_over a n f))

pub exchanged-one : (a b : Bytes) → OneForOne (exchanged a b)
exchanged-one a b m n e = sym (twice-exchanged a b m) ∙ (ap (exchanged a b) e ∙ twice-exchanged a b n)

pub after_one : {f g : Bytes → Bytes} → OneForOne f → OneForOne g → OneForOne (λ n. g (f n))
after_one p q a b e = p a b (q _ _ e)
