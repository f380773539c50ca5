-- Laws of choices, of tests, and of tests along a list. Assumes nothing.
use Prim.Native.Nat.{ℕ, zero, suc, ◌≤◌, ◌<◌}
use native.Mathlib.Nat.{le_of_suc-le-suc, not-suc-le-zero}
use native.Mathlib.Omega.{arith}
use mathlib.Core.Path.{◌≡◌, refl, ap, sym, ◌∙◌}
use mathlib.Core.Bool.{Bool, true, false, true≢false, false≢true, ◌&&◌, ◌||◌}
use mathlib.Core.List.{List, [], ◌∷◌, ◌++◌, map}
use lib.ListN.{length, get_or}
use Rattle.rules.specs.Choice.{every, any}
use Rattle.rules.proofs.Choices.{by, and_left, and_right}

-- ---- tests and choices

-- a test does not answer twice
pub clash : {P : Type 0} {b : Bool} → b ≡ true → b ≡ false → P
clash t f = absurd (true≢false (sym t ∙ f))

pub or_left : (a b : Bool) → (a || b) ≡ false → a ≡ false
or_left true b h = h
or_left false b h = refl

pub or_right : (a b : Bool) → (a || b) ≡ false → b ≡ false
or_right true b h = absurd (true≢false h)
or_right false b h = h

-- a test that fails, where its first part passes
pub then-not : (a b : Bool) → (a && b) ≡ false → a ≡ true → b ≡ false
then-not true b h e = h
then-not false b h e = absurd (false≢true e)

-- a test that passes, where its first part fails
pub else-so : (a b : Bool) → (a || b) ≡ true → a ≡ false → b ≡ true
else-so true b h e = absurd (true≢false e)
else-so false b h e = h

-- ---- tests along a list

module _ {A : Type 0} (test : A → Bool) where
  pub any-first : (a : A) (l : List A) → test a ≡ true → any test (a ∷ l) ≡ true
  unfolding any
  any-first a l e = ap (λ t. t || any test l) e

  pub any-later : (a : A) (l : List A) → any test l ≡ true → any test (a ∷ l) ≡ true
  unfolding any
  any-later a l e = by (test a) (any-first a l) (λ f. ap (λ t. t || any test l) f ∙ e)

  pub any-in-front : (s t : List A) → any test s ≡ true → any test (s ++ t) ≡ true
  unfolding any
  any-in-front [] t e = absurd (false≢true e)
  any-in-front (a ∷ s) t e = by (test a) (any-first a (s ++ t)) (λ f. any-later a (s ++ t) (any-in-front s t (else-so (test a) (any test s) e f)))

  pub any-behind : (s t : List A) → any test t ≡ true → any test (s ++ t) ≡ true
  any-behind [] t e = e
  any-behind (a ∷ s) t e = any-later a (s ++ t) (any-behind s t e)

  -- where no element passes, none at any place does
  pub none-at : (l : List A) (d : A) (i : ℕ) → any test l ≡ false → i < length l → test (get_or l i d) ≡ false
  unfolding any
  none-at [] d i e h = absurd (not-suc-le-zero h)
  none-at (a ∷ l) d zero e h = or_left (test a) (any test l) e
  none-at (a ∷ l) d (suc i) e h = none-at l d i (or_right (test a) (any test l) e) (le_of_suc-le-suc h)

  -- where every element passes and the default does not, a place that gives no passing one is behind the list
  pub behind-all : (l : List A) (d : A) (i : ℕ) → every test l ≡ true → test (get_or l i d) ≡ false → length l ≤ i
  unfolding every
  behind-all [] d i e h = omega arith
  behind-all (a ∷ l) d zero e h = clash (and_left (test a) (every test l) e) h
  behind-all (a ∷ l) d (suc i) e h = omega (arith, behind-all l d i (and_right (test a) (every test l) e) h)

-- a fact of each element
abbrev pub All : {A : Type 0} → (A → Type 0) → List A → Type 0
All P [] = Unit {0}
All P (a ∷ l) = P a × All P l

pub all_map : {A B : Type 0} (P : A → Type 0) (Q : B → Type 0) (f : A → B) → ((a : A) → P a → Q (f a)) → (l : List A) → All P l → All Q (map f l)
all_map P Q f g [] h = tt
all_map P Q f g (a ∷ l) h = (g a h.0, all_map P Q f g l h.1)

pub all-at : {A : Type 0} (P : A → Type 0) (l : List A) (d : A) (i : ℕ) → All P l → i < length l → P (get_or l i d)
all-at P [] d i h lt = absurd (not-suc-le-zero lt)
all-at P (a ∷ l) d zero h lt = h.0
all-at P (a ∷ l) d (suc i) h lt = all-at P l d i h.1 (le_of_suc-le-suc lt)

pub all_same : {A : Type 0} (P Q : A → Type 0) → ((a : A) → P a → Q a) → (l : List A) → All P l → All Q l
all_same P Q g [] h = tt
all_same P Q g (a ∷ l) h = (g a h.0, all_same P Q g l h.1)
