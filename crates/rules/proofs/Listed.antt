-- The words that definitions are put together from (specs/Choice.antt) are the library's words over lists. Assumes nothing.
use Rattle.std.proofs.Common.{◌≡◌, ℕ, ◌+◌, Bool, true, false, List, [], ◌∷◌, refl, ap, length, cond, suc, ◌&&◌, ◌||◌, map}
use native.Mathlib.Omega.{arith}
use Rattle.std.specs.List.{filter, list_any, list_all, prefix_len}
use Rattle.rules.specs.Choice.{choose, run, any, every, count}

pub any-listed : {A : Type 0} (test : A → Bool) (l : List A) → list_any test l ≡ any test l
unfolding any
any-listed test [] = refl
any-listed test (a ∷ l) = rw (any-listed test l)

pub every-listed : {A : Type 0} (test : A → Bool) (l : List A) → list_all test l ≡ every test l
unfolding every
every-listed test [] = refl
every-listed test (a ∷ l) = rw (every-listed test l)

chosen : (b : Bool) (m n : ℕ) → m ≡ n → cond b (1 + m) 0 ≡ choose b (suc n) 0
unfolding choose
chosen true m n e = omega arith
chosen false m n e = refl

counted : {A : Type 0} (b : Bool) (a : A) (xs : List A) (n : ℕ) → length xs ≡ n → length (cond b (a ∷ xs) xs) ≡ choose b (suc n) n
unfolding choose
counted true a xs n e = ap suc e
counted false a xs n e = e

pub run-listed : {A : Type 0} (test : A → Bool) (l : List A) → prefix_len test l ≡ run test l
unfolding run
run-listed test [] = refl
run-listed test (a ∷ l) = chosen (test a) _ _ (run-listed test l)

pub count-listed : {A : Type 0} (test : A → Bool) (l : List A) → length (filter test l) ≡ count test l
unfolding count
count-listed test [] = refl
count-listed test (a ∷ l) = counted (test a) a _ _ (count-listed test l)

-- the same over what a function makes of each element
module _ {A : Type 0} (test : A → Bool) where
  pub any-mapped : {B : Type 0} (f : B → A) (xs : List B) → list_any (λ x. test (f x)) xs ≡ any test (map f xs)
  unfolding any
  any-mapped f [] = refl
  any-mapped f (x ∷ xs) = ap (λ (b : Bool). test (f x) || b) (any-mapped f xs)

  pub every-mapped : {B : Type 0} (f : B → A) (xs : List B) → list_all (λ x. test (f x)) xs ≡ every test (map f xs)
  unfolding every
  every-mapped f [] = refl
  every-mapped f (x ∷ xs) = ap (λ (b : Bool). test (f x) && b) (every-mapped f xs)
