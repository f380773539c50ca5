-- A table's rows as a list, and the search of a text in a list, one element further. Assumes nothing.
use Prim.Native.Nat.{ℕ, zero, suc, ◌+◌, ◌*◌, ◌-◌, ◌/◌, ◌≤◌, ◌<◌, min}
use native.Mathlib.Nat.{div-mul-le_self, not-suc-le-zero}
use native.Mathlib.Numerals.{add-one}
use native.Mathlib.Omega.{arith}
use mathlib.Core.Path.{◌≡◌, refl, ap, ◌∙◌}
use mathlib.Core.Bool.{true, false}
use mathlib.Core.List.{List, []}
use lib.ListN.{length, get_or, take, drop, drop_of_length-le}
use lib.Seq.{drop-cons, drop-drop, get_or-drop}
use Rattle.text.specs.Bytes.{Bytes, same}
use Rattle.text.specs.Words.{place_among}
use Rattle.names.specs.Names.{rows_by, name_in, names_in}

-- ---- a search of a list of texts

module _ (ws : List Bytes) (s : Bytes) (k : ℕ) where
  module _ (h : k < length ws) where
    pub found : same (get_or ws k []) s ≡ true → k + place_among (drop k ws) s ≡ k
    found e = rw (drop-cons ws k [], e, place_among) (omega arith)

    pub next : same (get_or ws k []) s ≡ false → k + place_among (drop k ws) s ≡ k + 1 + place_among (drop (k + 1) ws) s
    next e = rw (add-one, drop-cons ws k [], e, place_among) (omega arith)

  pub ended : length ws ≤ k → k + place_among (drop k ws) s ≡ k
  ended h = rw (drop_of_length-le ws h) (omega arith)

-- ---- the rows of a table

module _ (text : Bytes → Bytes) where
  pub rows-length : (n : ℕ) (t : Bytes) → length (rows_by text n t) ≡ n
  unfolding rows_by
  rows-length zero t = refl
  rows-length (suc n) t = ap suc (rows-length n (drop 8 t))

  pub row_at : (n : ℕ) (t : Bytes) (k : ℕ) → k < n → get_or (rows_by text n t) k [] ≡ text (drop (k * 8) t)
  unfolding rows_by
  row_at zero t k h = absurd (not-suc-le-zero h)
  row_at (suc n) t zero h = refl
  row_at (suc n) t (suc k) h =
      let e : 8 + k * 8 ≡ suc k * 8 = omega arith in
      row_at n (drop 8 t) k (omega arith) ∙ ap text (drop-drop (k * 8) 8 t ∙ ap (λ (m : ℕ). drop m t) e)

  -- the search among the rows, for code that has compared row k
  module _ (t s : Bytes) (k : ℕ) where
    abbrev pub from : ℕ
    from = k + place_among (drop k (rows_by text (length t / 8) t)) s

    module _ (h : k < length t / 8) where
      below : k < length (rows_by text (length t / 8) t)
      below = rw rows-length h

      pub row-found : same (text (drop (k * 8) t)) s ≡ true → from ≡ k
      row-found e = found (rows_by text (length t / 8) t) s k below (ap (λ m. same m s) (row_at (length t / 8) t k h) ∙ e)

      pub row_next : same (text (drop (k * 8) t)) s ≡ false → from ≡ k + 1 + place_among (drop (k + 1) (rows_by text (length t / 8) t)) s
      row_next e = next (rows_by text (length t / 8) t) s k below (ap (λ m. same m s) (row_at (length t / 8) t k h) ∙ e)

    pub rows-ended : length t / 8 ≤ k → from ≡ k
    rows-ended h = ended (rows_by text (length t / 8) t) s k (rw rows-length h)

pub row_fits : (t : Bytes) (k : ℕ) → k < length t / 8 → k * 8 + 8 ≤ length t
row_fits t k h = omega (arith, div-mul-le_self (length t) 8)

pub names-length : (t : Bytes) → length (names_in t) ≡ length t / 8
unfolding names_in
names-length t = rows-length name_in (length t / 8) t

-- what the code cuts out of row k
pub name-cut : (t : Bytes) (k size : ℕ) → size ≡ min (get_or t (k * 8) 0) 7
    → take (k * 8 + 1 + size - (k * 8 + 1)) (drop (k * 8 + 1) t) ≡ name_in (drop (k * 8) t)
unfolding name_in
name-cut t k size e =
    let f : k * 8 + 1 + size - (k * 8 + 1) ≡ size = omega arith in
    let z : k * 8 + 0 ≡ k * 8 = omega arith in
    rw (f, e, get_or-drop, z, drop-drop)
