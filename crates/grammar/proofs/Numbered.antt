-- The kinds of variable symbols by their numbers: `number_of` turned round. Assumes nothing.
use Prim.Native.Nat.{ℕ, ◌≤◌}
use native.Mathlib.Omega.{arith}
use mathlib.Core.Path.{◌≡◌, refl, ap, sym, ◌∙◌}
use lib.Dec.{eqb}
use borrow.Author.Tests.{ne_eqb}
use Rattle.rules.specs.Choice.{choose}
use Rattle.rules.specs.Statement.{set_a, set_b, set_c}
use Rattle.rules.specs.Grammar.{Kind, parameter, symbol, syslist, sysndx, sysect, unknown}
use Rattle.rules.proofs.Choices.{passed_over}
use Rattle.grammar.specs.Tokens.{kind_of}
use Rattle.grammar.specs.Kinds.{number_of}

unfoldable pub kind_with : ℕ → Kind
kind_with n = choose (eqb n 5) syslist (choose (eqb n 6) sysndx (choose (eqb n 7) sysect (kind_of n)))

pub back : (k : Kind) → kind_with (number_of k) ≡ k
unfolding kind_with number_of kind_of choose
back parameter = refl
back (symbol set_a) = refl
back (symbol set_b) = refl
back (symbol set_c) = refl
back unknown = refl
back syslist = refl
back sysndx = refl
back sysect = refl

-- a number of the deck's
pub low : (n : ℕ) → n ≤ 4 → kind_of n ≡ kind_with n
unfolding kind_with
low n h = sym (passed_over _ _ (ne_eqb n 5 (λ e. omega (arith, e, h))) ∙ passed_over _ _ (ne_eqb n 6 (λ e. omega (arith, e, h))) ∙ passed_over _ _ (ne_eqb n 7 (λ e. omega (arith, e, h))))

-- no kind has a number over 7
pub none-above : (k : Kind) (n : ℕ) → 8 ≤ n → n ≡ number_of k → ⊥
unfolding number_of
none-above parameter n h e = absurd (omega (arith, h, e))
none-above (symbol set_a) n h e = absurd (omega (arith, h, e))
none-above (symbol set_b) n h e = absurd (omega (arith, h, e))
none-above (symbol set_c) n h e = absurd (omega (arith, h, e))
none-above unknown n h e = absurd (omega (arith, h, e))
none-above syslist n h e = absurd (omega (arith, h, e))
none-above sysndx n h e = absurd (omega (arith, h, e))
none-above sysect n h e = absurd (omega (arith, h, e))
