-- Names with blanks behind them are the same where the names are: a search of a table of titles tells whether a name is used already. Assumes nothing.
use Prim.Native.Nat.{ℕ, zero, suc, ◌+◌, ◌-◌, ◌≤◌, ◌<◌}
use native.Mathlib.Omega.{arith}
use mathlib.Core.Path.{◌≡◌, refl, ap, sym, ◌∙◌}
use mathlib.Core.Bool.{Bool, true, false, false≢true, ◌&&◌, ◌||◌, not}
use mathlib.Core.List.{List, [], ◌∷◌, ◌++◌, map}
use lib.Dec.{eqb, leb, ltb, leb-zero, leb-suc-suc}
use lib.ListN.{length, replicate, length-append, length-replicate}
use borrow.Author.Tests.{eq-eqb, ne_eqb, eqb-true, leb-true, leb-false}
use Rattle.text.specs.Bytes.{Bytes, same}
use Rattle.text.specs.Words.{place_among}
use Rattle.text.specs.Characters.{letter, digit, letter_or_digit}
use Rattle.text.proofs.Same.{other_length}
use Rattle.rules.specs.Choice.{every, any, run}
use Rattle.rules.specs.Limits.{macro_name_limit}
use Rattle.rules.specs.Lexemes.{space, is_name}
use Rattle.rules.specs.Fields.{is_no_space}
use Rattle.rules.specs.Faults.{is_macro_name}
use Rattle.rules.proofs.Choices.{by, and_left, and_right, passed_over, chosen}
use Rattle.rules.proofs.Logic.{clash}
use Rattle.rules.proofs.Symbols.{same-sym}
use Rattle.names.specs.Names.{padded}
use Rattle.tables.specs.Titles.{fits_row}

and_both : {a b : Bool} → a ≡ true → b ≡ true → (a && b) ≡ true
and_both e f = λ i. e i && f i

-- ---- two names and their blanks

no-space : (c : ℕ) → is_no_space c ≡ true → (c ≡ space → ⊥)
unfolding is_no_space
no-space c h e = false≢true (ap not (sym (eq-eqb c space e)) ∙ h)

not-blank : (c : ℕ) → is_no_space c ≡ true → (t : Bool) → (eqb c space && t) ≡ false
not-blank c h t = ap (λ b. b && t) (ne_eqb c space (no-space c h))

blank-not : (c : ℕ) → is_no_space c ≡ true → (t : Bool) → (eqb space c && t) ≡ false
blank-not c h t = ap (λ b. b && t) (ne_eqb space c (λ e. no-space c h (sym e)))

blanks-same : (a : ℕ) → same (replicate a space) (replicate a space) ≡ true
blanks-same zero = refl
blanks-same (suc a) = blanks-same a

-- two texts without spaces, each with blanks up to the same length
blanks-behind : (s t : Bytes) (a b : ℕ) → length s + a ≡ length t + b → every is_no_space s ≡ true → every is_no_space t ≡ true
    → same (s ++ replicate a space) (t ++ replicate b space) ≡ same s t
unfolding every
blanks-behind [] [] a b e h g = let f : a ≡ b = omega arith in ap (λ (k : ℕ). same (replicate a space) (replicate k space)) (sym f) ∙ blanks-same a
blanks-behind [] (d ∷ t) zero b e h g = absurd (omega arith)
blanks-behind [] (d ∷ t) (suc a) b e h g = blank-not d (and_left (is_no_space d) _ g) _
blanks-behind (c ∷ s) [] a zero e h g = absurd (omega arith)
blanks-behind (c ∷ s) [] a (suc b) e h g = not-blank c (and_left (is_no_space c) _ h) _
blanks-behind (c ∷ s) (d ∷ t) a b e h g =
    ap (eqb c d &&◌) (blanks-behind s t a b (omega arith) (and_right (is_no_space c) _ h) (and_right (is_no_space d) _ g))

module _ (t n : Bytes) (f : fits_row t ≡ true) (h : every is_no_space n ≡ true) where
  short : length t ≤ 8
  unfolding fits_row
  short = leb-true (length t) macro_name_limit (and_left (leb (length t) macro_name_limit) _ f)

  spaceless : every is_no_space t ≡ true
  unfolding fits_row
  spaceless = and_right (leb (length t) macro_name_limit) _ f

  longer-differs : 8 < length n → same n t ≡ false
  longer-differs l = other_length n t (λ e. omega (arith, short, e, l))

  pub titles-same : same (padded t) (padded n) ≡ same n t
  unfolding padded
  titles-same =
      by (leb (length n) 8)
      (λ e. let l = leb-true (length n) 8 e in let k = short in blanks-behind t n (8 - length t) (8 - length n) (omega arith) spaceless h ∙ same-sym t n)
      (λ e. let l = leb-false (length n) 8 e in let k = short in
      other_length (t ++ replicate (8 - length t) space) (n ++ replicate (8 - length n) space)
      (λ q. omega (arith, q, length-append t (replicate (8 - length t) space), length-replicate (8 - length t) space, length-append n (replicate (8 - length n) space)))
      ∙ sym (longer-differs l))

-- ---- macro names

letter-no-space : (c : ℕ) → letter_or_digit c ≡ true → is_no_space c ≡ true
unfolding letter_or_digit letter digit is_no_space
letter-no-space c h = by (eqb c space) (λ e. clash h (ap letter_or_digit (eqb-true c space e))) (λ e. ap not e)

run-no-space : (s : Bytes) → run letter_or_digit s ≡ length s → every is_no_space s ≡ true
unfolding every run
run-no-space [] h = refl
run-no-space (c ∷ s) h =
    by (letter_or_digit c)
    (λ e. let q : suc (run letter_or_digit s) ≡ suc (length s) = sym (chosen _ _ e) ∙ h in
    and_both (letter-no-space c e) (run-no-space s (omega arith)))
    (λ e. let q : 0 ≡ suc (length s) = sym (passed_over _ _ e) ∙ h in absurd (omega arith))

pub macro-name-fits : (n : Bytes) → is_macro_name n ≡ true → fits_row n ≡ true
unfolding is_macro_name is_name fits_row every letter_or_digit
macro-name-fits [] h = absurd (false≢true h)
macro-name-fits (c ∷ s) h =
    let name = and_left (is_name macro_name_limit (c ∷ s)) _ h in
    let rest = and_right (letter c) _ name in
    let run_is = eqb-true (run letter_or_digit s) (length s) (and_left (eqb (run letter_or_digit s) (length s)) _ rest) in
    and_both (and_right (eqb (run letter_or_digit s) (length s)) _ rest)
    (and_both (letter-no-space c (ap (◌|| digit c) (and_left (letter c) _ name))) (run-no-space s run_is))

-- ---- a name among titles

-- a name is among the titles where it is one of the names
pub title-among : (ts : List Bytes) (n : Bytes) → every fits_row ts ≡ true → every is_no_space n ≡ true
    → ltb (place_among (map padded ts) (padded n)) (length ts) ≡ any (same n) ts
unfolding every any
title-among [] n f h = refl
title-among (t ∷ ts) n f h =
    step (same (padded t) (padded n)) (same n t) (titles-same t n (and_left (fits_row t) _ f) h) (title-among ts n (and_right (fits_row t) _ f) h)
  where
    step : (b d : Bool) → b ≡ d → ltb (place_among (map padded ts) (padded n)) (length ts) ≡ any (same n) ts
        → ltb (elim b [ true ↦ 0 | false ↦ suc (place_among (map padded ts) (padded n)) ]) (suc (length ts)) ≡ (d || any (same n) ts)
    step true true e ih = leb-suc-suc 0 (length ts) ∙ leb-zero (length ts)
    step true false e ih = clash refl e
    step false true e ih = clash refl (sym e)
    step false false e ih = leb-suc-suc (suc (place_among (map padded ts) (padded n))) (length ts) ∙ ih

-- a longer name is none of them
pub longer-among : (ts : List Bytes) (n : Bytes) → every fits_row ts ≡ true → every is_no_space n ≡ true → 8 < length n → any (same n) ts ≡ false
unfolding every any
longer-among [] n f h l = refl
longer-among (t ∷ ts) n f h l = λ i. longer-differs t n (and_left (fits_row t) _ f) h l i || longer-among ts n (and_right (fits_row t) _ f) h l i
