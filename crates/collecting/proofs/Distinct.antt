-- Names of which none stands there twice are no more than those that they are among. Assumes nothing.
use Prim.Native.Nat.{suc, ◌≤◌}
use native.Mathlib.Omega.{arith}
use mathlib.Core.Path.{◌≡◌, refl, ap, sym, ◌∙◌, subst}
use mathlib.Core.Bool.{Bool, true, false, ◌&&◌, ◌||◌}
use mathlib.Core.List.{List, [], ◌∷◌, ◌++◌, append_assoc, append-nil}
use lib.ListN.{length}
use borrow.Author.Tests.{eq-eqb}
use Rattle.text.specs.Bytes.{Bytes, bytes, same}
use Rattle.text.proofs.Same.{same-is}
use Rattle.rules.specs.Choice.{choose, any}
use Rattle.rules.specs.Fields.{starts_with}
use Rattle.rules.specs.Calls.{is_among}
use Rattle.rules.specs.Library.{firsts, with_globals}
use Rattle.rules.specs.Faults.{declares_wrongly}
use Rattle.rules.proofs.Choices.{by, either}
use Rattle.rules.proofs.Logic.{clash, or_left, or_right, All, any-in-front, any-behind}
use Rattle.rules.proofs.Symbols.{same-sym, firsts-append}
use Rattle.rules.proofs.OneKind.{Globals}

-- ---- a name taken out of a list

without : Bytes → List Bytes → List Bytes
without x [] = []
without x (y ∷ ys) = choose (same x y) ys (y ∷ without x ys)

one_less : (x : Bytes) (ys : List Bytes) → any (same x) ys ≡ true → length ys ≡ suc (length (without x ys))
unfolding any without choose
one_less x [] h = clash h refl
one_less x (y ∷ ys) h = go (same x y) h (one_less x ys)
  where
    go : (b : Bool) → (b || any (same x) ys) ≡ true → (any (same x) ys ≡ true → length ys ≡ suc (length (without x ys)))
        → suc (length ys) ≡ suc (length (choose b ys (y ∷ without x ys)))
    go true h ih = refl
    go false h ih = ap suc (ih h)

others-stay : (x z : Bytes) (ys : List Bytes) → same z x ≡ false → any (same z) (without x ys) ≡ any (same z) ys
unfolding any without choose
others-stay x z [] h = refl
others-stay x z (y ∷ ys) h = go (same x y) refl (others-stay x z ys h)
  where
    go : (b : Bool) → same x y ≡ b → any (same z) (without x ys) ≡ any (same z) ys → any (same z) (choose b ys (y ∷ without x ys)) ≡ (same z y || any (same z) ys)
    go true e ih = ap (◌|| any (same z) ys) (sym (ap (same z) (sym (same-is x y e)) ∙ h))
    go false e ih = ap (same z y ||◌) ih

-- ---- names of which each is none of those before it

abbrev pub Fresh : List Bytes → List Bytes → Type 0
Fresh xs [] = Unit {0}
Fresh xs (n ∷ ns) = (any (same n) xs ≡ false) × Fresh (xs ++ (n ∷ [])) ns

pub fresh-append : (xs s t : List Bytes) → Fresh xs s → Fresh (xs ++ s) t → Fresh xs (s ++ t)
fresh-append xs [] t f g = subst (λ (x : List Bytes). Fresh x t) (append-nil xs) g
fresh-append xs (n ∷ s) t f g = (f.0, fresh-append (xs ++ (n ∷ [])) s t f.1 (subst (λ (x : List Bytes). Fresh x t) (sym (append_assoc xs (n ∷ []) s)) g))

not-front : (z : Bytes) (s t : List Bytes) → any (same z) (s ++ t) ≡ false → any (same z) s ≡ false
not-front z s t h = by (any (same z) s) (λ e. clash (any-in-front (same z) s t e) h) (λ e. e)

pub not_behind : (z : Bytes) (s t : List Bytes) → any (same z) (s ++ t) ≡ false → any (same z) t ≡ false
not_behind z s t h = by (any (same z) t) (λ e. clash (any-behind (same z) s t e) h) (λ e. e)

in-neither : (z : Bytes) (s t : List Bytes) → any (same z) s ≡ false → any (same z) t ≡ false → any (same z) (s ++ t) ≡ false
unfolding any
in-neither z [] t e f = f
in-neither z (x ∷ s) t e f = λ i. or_left (same z x) _ e i || in-neither z s t (or_right (same z x) _ e) f i

no_more : (ys ns xs rest : List Bytes) → ((z : Bytes) → any (same z) xs ≡ false → any (same z) rest ≡ any (same z) ys) → Fresh xs ns → All (λ n. any (same n) ys ≡ true) ns
    → length ns ≤ length rest
unfolding any
no_more ys [] xs rest k f a = omega arith
no_more ys (n ∷ ns) xs rest k f a =
    let less = one_less n rest (k n f.0 ∙ a.0) in
    let ih = no_more ys ns (xs ++ (n ∷ [])) (without n rest)
    (λ z h. others-stay n z rest (or_left (same z n) _ (not_behind z xs (n ∷ []) h)) ∙ k z (not-front z xs (n ∷ []) h)) f.1 a.1 in
    omega (arith, less, ih)

pub fresh-few : (ys ns : List Bytes) → Fresh [] ns → All (λ n. any (same n) ys ≡ true) ns → length ns ≤ length ys
fresh-few ys ns f a = no_more ys ns [] ys (λ z h. refl) f a

-- ---- what a line declares rightly

still-right : (before : Bytes → Bool) (n : Bytes) (ns : List Bytes) → any (same n) ns ≡ false → declares_wrongly before ns ≡ false → declares_wrongly (λ z. before z || same n z) ns ≡ false
unfolding any declares_wrongly
still-right before n [] e h = refl
still-right before n (m ∷ ns) e h =
    let s = starts_with (bytes "SYS") m in
    let h₁ = or_right s _ h in
    let h₂ = or_right (before m) _ h₁ in
    let r = still-right before n ns (or_right (same n m) _ e) (or_right (any (same m) ns) _ h₂) in
    λ i. or_left s _ h i || ((or_left (before m) _ h₁ i || or_left (same n m) _ e i) || (or_left (any (same m) ns) _ h₂ i || r i))

pub right-fresh : (before : Bytes → Bool) (xs ns : List Bytes) → ((z : Bytes) → before z ≡ false → any (same z) xs ≡ false) → declares_wrongly before ns ≡ false → Fresh xs ns
unfolding declares_wrongly any
right-fresh before xs [] k h = tt
right-fresh before xs (n ∷ ns) k h =
    let h₁ = or_right (starts_with (bytes "SYS") n) _ h in
    let h₂ = or_right (before n) _ h₁ in (
      k n (or_left (before n) _ h₁),
      right-fresh (λ z. before z || same n z) (xs ++ (n ∷ [])) ns
          (λ z e. in-neither z xs (n ∷ []) (k z (or_left (before z) _ e)) (ap (◌|| false) (same-sym z n ∙ or_right (before z) _ e)))
          (still-right before n ns (or_left (any (same n) ns) _ h₂) (or_right (any (same n) ns) _ h₂)),
    )

-- ---- all that are added are there

abbrev pub There : Globals → Bytes → Type 0
There gs n = any (same n) (firsts gs) ≡ true

stays-there : (gs new : Globals) (n : Bytes) → There gs n → There (with_globals gs new) n
unfolding with_globals
stays-there gs [] n h = h
stays-there gs (g ∷ new) n h = stays-there (choose (is_among g.0 gs) gs (gs ++ (g ∷ []))) new n (either (λ (x : Globals). There x n) (is_among g.0 gs) (λ e. h) (λ e. grown gs h))
  where
    grown : (gs : Globals) → There gs n → There (gs ++ (g ∷ [])) n
    grown gs h = subst (λ (x : List Bytes). any (same n) x ≡ true) (sym (firsts-append gs (g ∷ []))) (any-in-front (same n) (firsts gs) (firsts (g ∷ [])) h)

is_same : (n : Bytes) → same n n ≡ true
is_same [] = refl
is_same (c ∷ n) = ap (λ (b : Bool). b && same n n) (eq-eqb c c refl) ∙ is_same n

itself : (n : Bytes) (s : List Bytes) → any (same n) (s ++ (n ∷ [])) ≡ true
unfolding any
itself n s = any-behind (same n) s (n ∷ []) (ap (◌|| false) (is_same n))

among_there : (gs : Globals) (n : Bytes) → is_among n gs ≡ true → There gs n
unfolding is_among any firsts
among_there [] n h = clash h refl
among_there (g ∷ gs) n h =
    by (same g.0 n) (λ e. ap (◌|| any (same n) (firsts gs)) (same-sym n g.0 ∙ e))
    (λ e. any-behind (same n) (g.0 ∷ []) (firsts gs) (among_there gs n (sym (ap (◌|| is_among n gs) e) ∙ h)))

pub all_there : (gs new : Globals) → All (There (with_globals gs new)) (firsts new)
unfolding with_globals firsts
all_there gs [] = tt
all_there gs (g ∷ new) = (
  stays-there next new g.0 (either (λ (x : Globals). There x g.0) (is_among g.0 gs) (λ e. among_there gs g.0 e) (λ e. subst (λ (x : List Bytes). any (same g.0) x ≡ true) (sym (firsts-append gs (g ∷ []))) (itself g.0 (firsts gs)))),
  all_there next new,
)
  where
    next : Globals
    next = choose (is_among g.0 gs) gs (gs ++ (g ∷ []))
