-- A loop with a measure that falls at each turn: the bound on its turns is never met. Assumes nothing.
use mathlib.Core.Path.{◌≡◌, refl, sym, ◌∙◌}
use mathlib.Core.Bool.{Bool, true, false}
use Prim.Native.Nat.{ℕ, zero, suc, ◌<◌, ◌≤◌}
use native.Mathlib.Omega.{arith}
use native.Mathlib.Nat.{le_refl}
use Rattle.rules.specs.Choice.{choose, while}
use Rattle.rules.proofs.Choices.{either, chosen, passed_over}

pub record Falls {S : Type 0} (test : S → Bool) (turn : S → S) : Type 0 where
  pub measure : S → ℕ
  pub falls : (s : S) → test s ≡ true → measure (turn s) < measure s

module _ {S : Type 0} {test : S → Bool} {turn : S → S} (f : Falls test turn) where
  while-ends : (n : ℕ) (s : S) → test s ≡ false → while test turn n s ≡ s
  unfolding while
  while-ends zero s e = refl
  while-ends (suc n) s e = passed_over _ _ e

  while-enough : (j k : ℕ) (s : S) → f.measure s ≤ j → f.measure s ≤ k → while test turn j s ≡ while test turn k s
  unfolding while
  while-enough zero zero s a b = refl
  while-enough zero (suc k) s a b = either (λ r. s ≡ r) (test s) (λ e. let less = f.falls s e in absurd (omega arith)) (λ e. refl)
  while-enough (suc j) zero s a b = either (λ r. r ≡ s) (test s) (λ e. let less = f.falls s e in absurd (omega arith)) (λ e. refl)
  while-enough (suc j) (suc k) s a b = go (test s) refl (while-enough j k (turn s))
    where
      go : (t : Bool) → test s ≡ t → (f.measure (turn s) ≤ j → f.measure (turn s) ≤ k → while test turn j (turn s) ≡ while test turn k (turn s))
          → choose (test s) (while test turn j (turn s)) s ≡ choose (test s) (while test turn k (turn s)) s
      go true e same = let less = f.falls s e in chosen _ _ e ∙ same (omega arith) (omega arith) ∙ sym (chosen _ _ e)
      go false e same = passed_over _ _ e ∙ sym (passed_over _ _ e)

  while-goes : (n : ℕ) (s : S) → f.measure s ≤ n → test s ≡ true → while test turn n s ≡ while test turn n (turn s)
  unfolding while
  while-goes zero s h e = let less = f.falls s e in absurd (omega arith)
  while-goes (suc n) s h e = let less = f.falls s e in chosen _ _ e ∙ while-enough n (suc n) (turn s) (omega arith) (omega arith)

  pub while-less : (n : ℕ) (s : S) → f.measure (while test turn n s) ≤ f.measure s
  unfolding while
  while-less zero s = le_refl _
  while-less (suc n) s = either (λ r. f.measure r ≤ f.measure s) (test s) (λ e. let less = f.falls s e in let more = while-less n (turn s) in omega arith) (λ e. le_refl _)

  -- A loop of the code that is at s, on its way to `whole`, with at most `size` turns to go.
  pub record Going (size : ℕ) (whole s : S) : Type 0 where
    pub short : f.measure s ≤ size
    pub goes : while test turn size s ≡ whole

  module _ {size : ℕ} {whole s : S} (g : Going size whole s) where
    pub going-ends : test s ≡ false → s ≡ whole
    going-ends e = sym (while-ends size s e) ∙ g.goes

    module _ (e : test s ≡ true) {s' : S} (turned : s' ≡ turn s) where
      pub going_less : f.measure s' < f.measure s
      going_less = rw turned (f.falls s e)

      pub going_on : Going size whole s'
      going_on =
          let less = going_less in
          let all = g.short in
          record { short = omega arith; goes = rw turned (sym (while-goes size s g.short e) ∙ g.goes) }
