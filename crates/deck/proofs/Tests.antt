-- Laws of tests along a list: where every element passes, and where none does. Assumes nothing.
use Prim.Native.Nat.{ℕ, zero, suc, ◌<◌}
use native.Mathlib.Omega.{arith}
use mathlib.Core.Path.{◌≡◌, refl}
use mathlib.Core.Bool.{Bool, true, false, ◌&&◌, ◌||◌}
use mathlib.Core.List.{List, [], ◌∷◌, ◌++◌}
use lib.ListN.{length, get_or}
use Rattle.rules.specs.Choice.{every, any}
use Rattle.rules.proofs.Logic.{or_left, or_right}

module _ {A : Type 0} (test : A → Bool) where
  -- every element at its place passes
  pub every-each : (l : List A) (d : A) → ((k : ℕ) → k < length l → test (get_or l k d) ≡ true) → every test l ≡ true
  unfolding every
  every-each [] d h = refl
  every-each (a ∷ l) d h = λ i. h 0 (omega arith) i && every-each l d (λ k lt. h (suc k) (omega (arith, lt))) i

  -- none passes in two lists together, and in each
  pub none-in-both : (s t : List A) → any test s ≡ false → any test t ≡ false → any test (s ++ t) ≡ false
  unfolding any
  none-in-both [] t h k = k
  none-in-both (a ∷ s) t h k = λ i. or_left (test a) _ h i || none-in-both s t (or_right (test a) _ h) k i

  pub none-in-parts : (s t : List A) → any test (s ++ t) ≡ false → (any test s ≡ false) × (any test t ≡ false)
  unfolding any
  none-in-parts [] t h = (refl, h)
  none-in-parts (a ∷ s) t h =
      let r = none-in-parts s t (or_right (test a) _ h) in
      (λ i. or_left (test a) _ h i || r.0 i, r.1)

  -- nor at any place, within the list or behind it
  pub none-there : (l : List A) (d : A) (i : ℕ) → any test l ≡ false → test d ≡ false → test (get_or l i d) ≡ false
  unfolding any
  none-there [] d i h e = e
  none-there (a ∷ l) d zero h e = or_left (test a) _ h
  none-there (a ∷ l) d (suc i) h e = none-there l d i (or_right (test a) _ h) e
