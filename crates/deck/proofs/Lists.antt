-- Laws of lists: a fact of each element, one map after another. Assumes nothing.
use Prim.Native.Nat.{ℕ, zero, suc, ◌<◌}
use native.Mathlib.Omega.{arith}
use mathlib.Core.Path.{◌≡◌, refl, ap}
use mathlib.Core.List.{List, [], ◌∷◌, ◌++◌, map}
use lib.ListN.{length, get_or, replicate}
use Rattle.rules.proofs.Logic.{All}

pub all_append : {A : Type 0} (P : A → Type 0) (s t : List A) → All P s → All P t → All P (s ++ t)
all_append P [] t h k = k
all_append P (a ∷ s) t h k = (h.0, all_append P s t h.1 k)

-- what each element has, and the one that stands for those behind the last, each place has
pub all_get_d : {A : Type 0} (P : A → Type 0) (l : List A) (i : ℕ) (d : A) → All P l → P d → P (get_or l i d)
all_get_d P [] i d h k = k
all_get_d P (a ∷ l) zero d h k = h.0
all_get_d P (a ∷ l) (suc i) d h k = all_get_d P l i d h.1 k

pub map-map : {A B C : Type 0} (f : A → B) (g : B → C) {h : A → C} → ((a : A) → g (f a) ≡ h a) → (l : List A) → map g (map f l) ≡ map h l
map-map f g e [] = refl
map-map f g e (a ∷ l) = λ i. e a i ∷ map-map f g e l i

-- a map that gives the same for every element
pub map-constant : {A B : Type 0} (b : B) (l : List A) → map (λ a. b) l ≡ replicate (length l) b
map-constant b [] = refl
map-constant b (a ∷ l) = ap (b ∷◌) (map-constant b l)

-- a fact of each place is one of each element
pub all-mapped : {A B : Type 0} (P : B → Type 0) (f : A → B) (l : List A) (d : A) → ((i : ℕ) → i < length l → P (f (get_or l i d))) → All P (map f l)
all-mapped P f [] d h = tt
all-mapped P f (a ∷ l) d h = (h 0 (omega arith), all-mapped P f l d (λ i k. h (suc i) (omega arith)))
