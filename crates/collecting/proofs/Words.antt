-- The words of declarations: their places, and that each has four letters. Assumes nothing.
use Prim.Native.Nat.{ℕ, zero, suc, ◌+◌, ◌≤◌, ◌<◌}
use native.Mathlib.Nat.{le_of_suc-le-suc, not-suc-le-zero}
use native.Mathlib.Omega.{arith}
use mathlib.Core.Path.{◌≡◌, refl, ap, sym, ◌∙◌, subst}
use mathlib.Core.Bool.{Bool, true, false}
use mathlib.Core.List.{List, [], ◌∷◌}
use lib.Dec.{eqb}
use lib.ListN.{length, get_or}
use borrow.Author.Tests.{eqb-true, eqb-false}
use Rattle.text.specs.Bytes.{Bytes, same}
use Rattle.text.specs.Words.{words, place_among, word_number}
use Rattle.text.proofs.Same.{same-is}
use Rattle.rules.proofs.Choices.{by}
use Rattle.std.specs.Prelude.{Some}
use Rattle.kinds.specs.declared.Set.{Set as Kept}
use Rattle.kinds.specs.declared.Set.TheVariants.{A, B, C}
use Rattle.kinds.specs.declared.Word.TheVariants.{Lcl, Gbl}
use Rattle.words.specs.Places.{place_of}

-- ---- numbers in a range

-- what `n` numbers from `lo` on have
abbrev Each : (ℕ → Type 0) → ℕ → ℕ → Type 0
Each P lo zero = Unit {0}
Each P lo (suc n) = P lo × Each P (suc lo) n

range : (P : ℕ → Type 0) (lo n : ℕ) → Each P lo n → (w : ℕ) → lo ≤ w → w < lo + n → P w
range P lo zero e w h k = absurd (omega arith)
range P lo (suc n) e w h k =
    by (eqb lo w) (λ q. subst P (eqb-true lo w q) e.0)
    (λ q. let d = eqb-false lo w q in range P (suc lo) n e.1 w (omega (arith, d, h)) (omega (arith, k)))

-- ---- where the words of declarations stand

pub local-place : (k : Kept) → (3 ≤ place_of (Some (Lcl k))) × (place_of (Some (Lcl k)) < 9)
local-place A = (omega arith, omega arith)
local-place B = (omega arith, omega arith)
local-place C = (omega arith, omega arith)

pub global-place : (k : Kept) → (3 ≤ place_of (Some (Gbl k))) × (place_of (Some (Gbl k)) < 9)
global-place A = (omega arith, omega arith)
global-place B = (omega arith, omega arith)
global-place C = (omega arith, omega arith)

-- ---- a declaration's word has four letters

found_word : (ws : List Bytes) (s : Bytes) → place_among ws s < length ws → get_or ws (place_among ws s) [] ≡ s
found_word [] s h = absurd (not-suc-le-zero h)
found_word (w ∷ ws) s h = go (same w s) refl h (found_word ws s)
  where
    go : (b : Bool) → same w s ≡ b → elim b [ true ↦ 0 | false ↦ suc (place_among ws s) ] < suc (length ws) → (place_among ws s < length ws → get_or ws (place_among ws s) [] ≡ s)
        → get_or (w ∷ ws) (elim b [ true ↦ 0 | false ↦ suc (place_among ws s) ]) [] ≡ s
    go true e h ih = same-is w s e
    go false e h ih = ih (le_of_suc-le-suc h)

pub four-letters : (o : Bytes) (w : ℕ) → w ≡ word_number o → 3 ≤ w → w < 9 → length o ≡ 4
unfolding word_number words
four-letters o w e h k =
    let f : get_or words w [] ≡ o = ap (λ (n : ℕ). get_or words n []) e ∙ found_word words o (omega (arith, e, k)) in
    ap length (sym f) ∙ range (λ (n : ℕ). length (get_or words n []) ≡ 4) 3 6 (refl, (refl, (refl, (refl, (refl, (refl, tt)))))) w h k
