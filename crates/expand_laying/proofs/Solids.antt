-- A laid-out line, with and without its trailing spaces, has the lengths that its fields' lengths give; and without them it is a front of itself. Assumes nothing.
use Prim.Native.Nat.{ℕ, zero, suc, ◌+◌, ◌-◌, ◌≤◌, ◌<◌}
use mathlib.Core.Path.{◌≡◌, refl, ap, sym, ◌∙◌}
use mathlib.Core.Bool.{Bool, true, false}
use mathlib.Core.List.{[], ◌∷◌, ◌++◌}
use native.Mathlib.Omega.{arith}
use lib.Dec.{eqb, ltb}
use lib.ListN.{length, take, get_or, replicate, length-append, length-replicate}
use lib.Seq.{take-suc, length-take-le}
use borrow.Author.Tests.{ne_eqb}
use Rattle.text.specs.Bytes.{Bytes}
use Rattle.rules.specs.Choice.{choose}
use Rattle.rules.specs.Lexemes.{space}
use Rattle.rules.specs.Fields.{is_empty}
use Rattle.rules.specs.Calls.{put_at, laid_out, trimmed}
use Rattle.rules.proofs.Choices.{by, chosen, passed_over}
use Rattle.expand_laying.specs.Solid.{solid, solid_both, gap, line_size, line_solid}

-- one byte in front
abbrev onto : ℕ → Bytes → Bytes
onto c t = elim t [ [] ↦ choose (eqb c space) [] (c ∷ []) | d ∷ u ↦ c ∷ (d ∷ u) ]

trimmed-cons : (c : ℕ) (s : Bytes) → trimmed (c ∷ s) ≡ onto c (trimmed s)
unfolding trimmed
trimmed-cons c s = refl

-- a text behind another
pub trimmed-both : (a b : Bytes) → trimmed (a ++ b) ≡ choose (is_empty (trimmed b)) (trimmed a) (a ++ trimmed b)
unfolding trimmed is_empty choose
trimmed-both [] b = at (trimmed b)
  where
    at : (t : Bytes) → t ≡ choose (is_empty t) [] t
    at [] = refl
    at (c ∷ t) = refl
trimmed-both (c ∷ a) b = trimmed-cons c (a ++ b) ∙ ap (onto c) (trimmed-both a b) ∙ at (trimmed b)
  where
    more : (x : Bytes) (d : ℕ) (t : Bytes) → onto c (x ++ (d ∷ t)) ≡ c ∷ (x ++ (d ∷ t))
    more [] d t = refl
    more (e ∷ x) d t = refl

    at : (t : Bytes) → onto c (choose (is_empty t) (trimmed a) (a ++ t)) ≡ choose (is_empty t) (trimmed (c ∷ a)) (c ∷ (a ++ t))
    at [] = sym (trimmed-cons c a)
    at (d ∷ t) = more a d t

-- spaces are not solid
pub spaces-gone : (n : ℕ) → trimmed (replicate n space) ≡ []
unfolding trimmed choose
spaces-gone zero = refl
spaces-gone (suc n) = trimmed-cons space (replicate n space) ∙ ap (onto space) (spaces-gone n)

-- without its trailing spaces a text is its own front
front-one : (c : ℕ) (s : Bytes) (b : Bool) → choose b [] (c ∷ []) ≡ take (length (choose b [] (c ∷ []))) (c ∷ s)
unfolding choose
front-one c s true = refl
front-one c s false = refl

front-more : (c : ℕ) (s t : Bytes) → t ≡ take (length t) s → onto c t ≡ take (length (onto c t)) (c ∷ s)
front-more c s [] h = front-one c s (eqb c space)
front-more c s (d ∷ t) h = ap (λ l. c ∷ l) h

pub trimmed-front : (s : Bytes) → trimmed s ≡ take (solid s) s
unfolding solid trimmed
trimmed-front [] = refl
trimmed-front (c ∷ s) = trimmed-cons c s ∙ front-more c s (trimmed s) (trimmed-front s) ∙ ap (λ t. take (length t) (c ∷ s)) (sym (trimmed-cons c s))

-- lengths
pub empty-size : (t : Bytes) → is_empty t ≡ eqb (length t) 0
unfolding is_empty
empty-size [] = refl
empty-size (c ∷ t) = sym (ne_eqb (suc (length t)) 0 (λ e. omega arith))

pub solid-both : (a b : Bytes) → solid (a ++ b) ≡ solid_both (length a) (solid a) (solid b)
unfolding solid solid_both
solid-both a b = ap length (trimmed-both a b) ∙ by (is_empty (trimmed b))
    (λ h. ap length (chosen (trimmed a) (a ++ trimmed b) h) ∙ sym (chosen (length (trimmed a)) (length a + length (trimmed b)) (sym (empty-size (trimmed b)) ∙ h)))
    (λ h. ap length (passed_over (trimmed a) (a ++ trimmed b) h) ∙ length-append a (trimmed b) ∙ sym (passed_over (length (trimmed a)) (length a + length (trimmed b)) (sym (empty-size (trimmed b)) ∙ h)))

pub gone : (n : ℕ) → solid (replicate n space) ≡ 0
unfolding solid
gone n = ap length (spaces-gone n)

twice : (k n m f : ℕ) → solid_both k m (solid_both n 0 f) ≡ solid_both (k + n) m f
unfolding solid_both choose
twice k n m zero = refl
twice k n m (suc f) =
    let some : eqb (suc f) 0 ≡ false = ne_eqb (suc f) 0 (λ e. omega arith) in
    let more : eqb (n + suc f) 0 ≡ false = ne_eqb (n + suc f) 0 (λ e. omega arith) in
    rw (some, more) (omega arith)

-- a field put behind a line
pub put-size : (before : ℕ) (l f : Bytes) → length (put_at before l f) ≡ length l + (gap before (length l) + length f)
unfolding put_at gap
put-size before l f =
    let n = choose (ltb (length l) before) (before - length l) 1 in
    length-append l (replicate n space ++ f) ∙ ap (λ k. length l + k) (length-append (replicate n space) f ∙ ap (λ k. k + length f) (length-replicate n space))

pub put-solid : (before : ℕ) (l f : Bytes) → solid (put_at before l f) ≡ solid_both (length l + gap before (length l)) (solid l) (solid f)
unfolding put_at gap
put-solid before l f =
    let n = choose (ltb (length l) before) (before - length l) 1 in
    let spaces : solid (replicate n space ++ f) ≡ solid_both n 0 (solid f) =
    solid-both (replicate n space) f ∙ (λ j. solid_both (length-replicate n space j) (gone n j) (solid f)) in
    solid-both l (replicate n space ++ f) ∙ ap (solid_both (length l) (solid l)) spaces ∙ twice (length l) n (solid l) (solid f)

-- THE LINE, by the lengths of its fields
pub line-size : (n o a : Bytes) → length (laid_out n o a) ≡ line_size (length n) (length o) (length a)
unfolding laid_out line_size
line-size n o a = by (is_empty a)
    (λ h. ap length (chosen (put_at 9 n o) (put_at 15 (put_at 9 n o) a) h) ∙ put-size 9 n o ∙ sym (chosen _ _ (sym (empty-size a) ∙ h)))
    (λ h. ap length (passed_over (put_at 9 n o) (put_at 15 (put_at 9 n o) a) h) ∙ put-size 15 (put_at 9 n o) a
    ∙ ap (λ l. l + (gap 15 l + length a)) (put-size 9 n o) ∙ sym (passed_over _ _ (sym (empty-size a) ∙ h)))

pub line-solid : (n o a : Bytes) → solid (laid_out n o a) ≡ line_solid (length n) (solid n) (length o) (solid o) (length a) (solid a)
unfolding laid_out line_solid
line-solid n o a = by (is_empty a)
    (λ h. ap solid (chosen (put_at 9 n o) (put_at 15 (put_at 9 n o) a) h) ∙ put-solid 9 n o ∙ sym (chosen _ _ (sym (empty-size a) ∙ h)))
    (λ h. ap solid (passed_over (put_at 9 n o) (put_at 15 (put_at 9 n o) a) h) ∙ put-solid 15 (put_at 9 n o) a
    ∙ (λ j. solid_both (put-size 9 n o j + gap 15 (put-size 9 n o j)) (put-solid 9 n o j) (solid a)) ∙ sym (passed_over _ _ (sym (empty-size a) ∙ h)))

-- ---- from the end on: what the code's search sees

trimmed-within : (s : Bytes) → length (trimmed s) ≤ length s
unfolding trimmed choose
trimmed-within [] = omega arith
trimmed-within (c ∷ s) = at (trimmed s) (trimmed-within s)
  where
    one : (b : Bool) → length {A = ℕ} (choose b [] (c ∷ [])) ≤ suc (length s)
    one true = omega arith
    one false = omega arith

    at : (t : Bytes) → length t ≤ length s → length {A = ℕ} (onto c t) ≤ suc (length s)
    at [] h = one (eqb c space)
    at (d ∷ u) h = omega arith

pub solid-within : (s : Bytes) → solid s ≤ length s
unfolding solid
solid-within s = trimmed-within s

-- one more byte at the end: a space is not solid, any other is
pub solid-space : (s : Bytes) (n : ℕ) → n < length s → get_or s n 0 ≡ space → solid (take (suc n) s) ≡ solid (take n s)
unfolding solid solid_both choose
solid-space s n h e =
    ap solid (take-suc s n 0 h ∙ ap (λ c. take n s ++ (c ∷ [])) e) ∙ solid-both (take n s) (replicate 1 space) ∙ ap (solid_both (length (take n s)) (solid (take n s))) (gone 1)

pub solid-other : (s : Bytes) (n : ℕ) → n < length s → (get_or s n 0 ≡ space → ⊥) → solid (take (suc n) s) ≡ suc n
unfolding solid trimmed solid_both choose
solid-other s n h d =
    let size : length (take n s) ≡ n = length-take-le n s (omega arith) in
    let one : solid (get_or s n 0 ∷ []) ≡ 1 = rw (ne_eqb (get_or s n 0) space d) in
    let more : n + 1 ≡ suc n = omega arith in
    ap solid (take-suc s n 0 h) ∙ solid-both (take n s) (get_or s n 0 ∷ []) ∙ ap (solid_both (length (take n s)) (solid (take n s))) one ∙ ap (λ k. k + 1) size ∙ more

-- a turn of `solid_of`, and its ends
module _ (s : Bytes) (n : ℕ) (h : n ≤ length s) (so_far : solid s ≡ solid (take n s)) where
  pub solid-found : 0 < n → (get_or s (n - 1) 0 ≡ space → ⊥) → n ≡ solid s
  solid-found p d =
      let e : suc (n - 1) ≡ n = omega arith in
      sym (so_far ∙ ap (λ k. solid (take k s)) (sym e) ∙ solid-other s (n - 1) (omega arith) d ∙ e)

  pub solid-on : 0 < n → get_or s (n - 1) 0 ≡ space → solid s ≡ solid (take (n - 1) s)
  solid-on p d =
      let e : suc (n - 1) ≡ n = omega arith in
      so_far ∙ ap (λ k. solid (take k s)) (sym e) ∙ solid-space s (n - 1) (omega arith) d

  pub solid-none : n ≤ 0 → 0 ≡ solid s
  unfolding solid trimmed
  solid-none z = let e : n ≡ 0 = omega arith in sym (so_far ∙ ap (λ k. solid (take k s)) e)
