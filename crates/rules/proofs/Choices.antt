-- Laws of `choose` and of tests joined by `&&`. Assumes nothing.
use mathlib.Core.Path.{◌≡◌, refl, ap}
use mathlib.Core.Bool.{Bool, true, false, ◌&&◌}
use Rattle.rules.specs.Choice.{choose}

-- a choice whose test is known
pub chosen : {A : Type 0} {b : Bool} (x y : A) → b ≡ true → choose b x y ≡ x
unfolding choose
chosen x y e = ap (λ b. choose b x y) e

pub passed_over : {A : Type 0} {b : Bool} (x y : A) → b ≡ false → choose b x y ≡ y
unfolding choose
passed_over x y e = ap (λ b. choose b x y) e

-- by cases on a test
pub by : {P : Type 0} (b : Bool) → (b ≡ true → P) → (b ≡ false → P) → P
by true t f = t refl
by false t f = f refl

-- a choice has what both of its branches have
pub either : {A : Type 0} (P : A → Type 0) (b : Bool) {x y : A} → (b ≡ true → P x) → (b ≡ false → P y) → P (choose b x y)
unfolding choose
either P true t f = t refl
either P false t f = f refl

-- a function of a choice
pub into : {A B : Type 0} (f : A → B) (b : Bool) (x y : A) → f (choose b x y) ≡ choose b (f x) (f y)
unfolding choose
into f true x y = refl
into f false x y = refl

-- the parts of a test that holds
pub and_left : (a b : Bool) → (a && b) ≡ true → a ≡ true
and_left true b h = refl
and_left false b h = h

pub and_right : (a b : Bool) → (a && b) ≡ true → b ≡ true
and_right true b h = h
and_right false b h = cc
