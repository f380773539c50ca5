-- Laws of `same`: it is equality, and what one more byte decides. Assumes nothing.
use Prim.Native.Nat.{ℕ, suc, ◌+◌, ◌≤◌, ◌<◌}
use native.Mathlib.Nat.{le_of_suc-le-suc, not-suc-le-zero}
use native.Mathlib.Numerals.{add-one}
use mathlib.Core.Path.{◌≡◌, refl, ◌∙◌, ap}
use mathlib.Core.Bool.{true, false, false≢true, and-false, and-eq-true_iff}
use mathlib.Core.List.{[], ◌∷◌}
use lib.Dec.{eqb}
use lib.ListN.{length, get_or, drop, drop_of_length-le}
use lib.Seq.{drop-cons}
use borrow.Author.Tests.{eq-eqb, ne_eqb, eqb-true}
use Rattle.text.specs.Bytes.{Bytes, same}

pub same-is : (s t : Bytes) → same s t ≡ true → s ≡ t
same-is [] [] e = refl
same-is [] (d ∷ t) e = absurd (false≢true e)
same-is (c ∷ s) [] e = absurd (false≢true e)
same-is (c ∷ s) (d ∷ t) e = let h = (and-eq-true_iff (eqb c d) (same s t)).0 e in ap (λ x. x ∷ s) (eqb-true c d h.0) ∙ ap (λ y. d ∷ y) (same-is s t h.1)

pub shorter : (s t : Bytes) → length s < length t → same s t ≡ false
shorter [] [] h = absurd (not-suc-le-zero h)
shorter [] (d ∷ t) h = refl
shorter (c ∷ s) [] h = refl
shorter (c ∷ s) (d ∷ t) h = rw (shorter s t (le_of_suc-le-suc h)) (and-false (eqb c d))

pub other_length : (s t : Bytes) → (length s ≡ length t → ⊥) → same s t ≡ false
other_length [] [] h = absurd (h refl)
other_length [] (d ∷ t) h = refl
other_length (c ∷ s) [] h = refl
other_length (c ∷ s) (d ∷ t) h = rw (other_length s t (λ e. h (ap suc e))) (and-false (eqb c d))

-- two texts, both read from place i on
module _ (s t : Bytes) (i : ℕ) where
  module _ (hs : i < length s) (ht : i < length t) where
    pub differs : (get_or s i 0 ≡ get_or t i 0 → ⊥) → same (drop i s) (drop i t) ≡ false
    differs d = rw (drop-cons s i 0, drop-cons t i 0) (simp (ne_eqb _ _ d))

    pub agrees : get_or s i 0 ≡ get_or t i 0 → same (drop i s) (drop i t) ≡ same (drop (i + 1) s) (drop (i + 1) t)
    agrees e = rw (add-one, drop-cons s i 0, drop-cons t i 0) (simp (eq-eqb _ _ e))

  pub both_end : length s ≤ i → length t ≤ i → same (drop i s) (drop i t) ≡ true
  both_end hs ht = rw (drop_of_length-le s hs, drop_of_length-le t ht)
