-- Writes one behind another, texts with their counts, and what a loop's turn adds. Assumes nothing.
use Prim.Native.Nat.{ℕ, suc, ◌+◌, ◌-◌, ◌≤◌, ◌<◌}
use native.Mathlib.Numerals.{add-one}
use native.Mathlib.Omega.{arith}
use mathlib.Core.Path.{◌≡◌, refl, ap, ◌∙◌}
use mathlib.Core.List.{◌++◌}
use lib.ListN.{length, get_or, drop, set, length-append, length-set, length-map, drop_of_length-le}
use lib.Seq.{drop-cons}
use Rattle.text.specs.Bytes.{Bytes}
use Rattle.deck.specs.Coding.{two}
use Rattle.lent.specs.Splice.{splice}
use Rattle.lent.proofs.Writes.{splice-append, splice-length}
use Rattle.writing.specs.Bytes.{counted, lessened}

-- one write and another where it ends
module _ (out : Bytes) (at : ℕ) (s t : Bytes) (end : ℕ) (f : end ≡ at + length s) where
  pub both-written : (new new₂ : Bytes) → new ≡ splice out at s → new₂ ≡ splice new end t → new₂ ≡ splice out at (s ++ t)
  both-written new new₂ e g = g ∙ ((λ i. splice (e i) (f i) t) ∙ splice-append out at s t)

  pub both_end : (end₂ : ℕ) → end₂ ≡ end + length t → end₂ ≡ at + length (s ++ t)
  both_end end₂ g = omega (arith, f, g, length-append s t)

pub kept-length : (out new : Bytes) (at : ℕ) (s : Bytes) → new ≡ splice out at s → length new ≡ length out
kept-length out new at s e = ap length e ∙ splice-length out at s

pub set-kept : (out new : Bytes) (i b at : ℕ) (s : Bytes) → new ≡ splice (set out i b) at s → length new ≡ length out
set-kept out new i b at s e = kept-length (set out i b) new at s e ∙ length-set out i b

pub counted-length : (s : Bytes) → length (counted s) ≡ length s + 2
unfolding counted two
counted-length s = omega arith

pub pair-length : (s t : Bytes) → length (counted s ++ counted t) ≡ length s + length t + 4
pair-length s t = omega (arith, length-append (counted s) (counted t), counted-length s, counted-length t)

pub three-length : (s t u : Bytes) → length (counted s ++ (counted t ++ counted u)) ≡ length s + length t + length u + 6
three-length s t u = omega (arith, length-append (counted s) (counted t ++ counted u), counted-length s, pair-length t u)

pub two-length : (n : ℕ) → length (two.put n) ≡ 2
unfolding two
two-length n = refl

pub branch-length : (n : ℕ) (s : Bytes) → length (two.put n ++ counted s) ≡ length s + 4
branch-length n s = omega (arith, length-append (two.put n) (counted s), two-length n, counted-length s)

pub counted-written : (out new new₂ s : Bytes) (at : ℕ) → new ≡ splice out at (two.put (length s)) → new₂ ≡ splice new (at + 2) s → new₂ ≡ splice out at (counted s)
unfolding counted two
counted-written out new new₂ s at e f = both-written out at (two.put (length s)) s (at + 2) refl new new₂ e f

-- ---- every byte one less

pub lessened-length : (s : Bytes) → length (lessened s) ≡ length s
unfolding lessened
lessened-length s = length-map s (λ (b : ℕ). b - 1)

module _ (out s : Bytes) (at i : ℕ) where
  pub lessened-on : (b : ℕ) → b ≡ get_or s i 0 - 1 → i < length s → splice (set out (at + i) b) (at + (i + 1)) (lessened (drop (i + 1) s)) ≡ splice out (at + i) (lessened (drop i s))
  unfolding splice lessened
  lessened-on b e h = let f : at + (i + 1) ≡ suc (at + i) = omega arith in rw (drop-cons s i 0 h, f, add-one, e)

  pub lessened-end : length s ≤ i → splice out (at + i) (lessened (drop i s)) ≡ out
  unfolding splice lessened
  lessened-end h = rw (drop_of_length-le s h)
