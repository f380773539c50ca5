-- What definitions are put together from: a choice, a run, a scan, a loop. Assumes nothing.
use Rattle.std.specs.Prelude.{ℕ, zero, suc, Bool, true, false, ◌&&◌, ◌||◌, List, [], ◌∷◌}

-- the first where the test holds, else the second
unfoldable pub choose : {A : Type 0} → Bool → A → A → A
choose true x y = x
choose false x y = y

-- how many elements stand before the first at which a scan with a state stops
module _ {A S : Type 0} (stop : S → A → Bool) (next : S → A → S) where
  unfoldable pub passed : S → List A → ℕ
  passed st [] = 0
  passed st (a ∷ l) = choose (stop st a) 0 (suc (passed (next st a) l))

-- how many elements stand first that all pass the test
unfoldable pub run : {A : Type 0} → (A → Bool) → List A → ℕ
run test [] = 0
run test (a ∷ l) = choose (test a) (suc (run test l)) 0

unfoldable pub every : {A : Type 0} → (A → Bool) → List A → Bool
every test [] = true
every test (a ∷ l) = test a && every test l

unfoldable pub any : {A : Type 0} → (A → Bool) → List A → Bool
any test [] = false
any test (a ∷ l) = test a || any test l

unfoldable pub count : {A : Type 0} → (A → Bool) → List A → ℕ
count test [] = 0
count test (a ∷ l) = choose (test a) (suc (count test l)) (count test l)

-- one more element in front of the first of several lists
unfoldable pub on_first : {A : Type 0} → A → List (List A) → List (List A)
on_first a [] = (a ∷ []) ∷ []
on_first a (l ∷ ls) = (a ∷ l) ∷ ls

-- a loop: turns are made while the test holds, at most `n` of them
unfoldable pub while : {S : Type 0} → (S → Bool) → (S → S) → ℕ → S → S
while test turn zero s = s
while test turn (suc n) s = choose (test s) (while test turn n (turn s)) s
