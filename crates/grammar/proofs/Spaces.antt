-- Spaces, one by one. Assumes nothing.
use Prim.Native.Nat.{ℕ, suc}
use mathlib.Core.Path.{◌≡◌, refl, ap, sym, ◌∙◌}
use mathlib.Core.List.{List, [], ◌∷◌}
use lib.Dec.{eqb}
use lib.ListN.{drop}
use borrow.Author.Tests.{eq-eqb, ne_eqb}
use Rattle.rules.specs.Choice.{run}
use Rattle.rules.specs.Lexemes.{Lex, byte, byte_of, space}
use Rattle.rules.specs.Grammar.{Kind, plain, past_spaces}
use Rattle.rules.proofs.Choices.{chosen, passed_over}

pub spaces-more : (c : ℕ) (x : List (Lex Kind)) → c ≡ 32 → past_spaces (byte c ∷ x) ≡ past_spaces x
unfolding past_spaces run byte_of
spaces-more c x h = ap (λ n. drop n (byte c ∷ x)) (chosen (suc (run (λ y. eqb (byte_of y) space) x)) 0 (eq-eqb c 32 h))

pub spaces-end : (x : List (Lex Kind)) {c : ℕ} → c ≡ plain x → (c ≡ 32 → ⊥) → x ≡ past_spaces x
unfolding past_spaces run plain
spaces-end [] read h = refl
spaces-end (y ∷ x) read h = sym (ap (λ n. drop n (y ∷ x)) (passed_over (suc (run (λ z. eqb (byte_of z) space) x)) 0 (ne_eqb (byte_of y) 32 (λ e. h (read ∙ e)))))
