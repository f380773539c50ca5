-- A table with one row more written has one name more. Assumes nothing.
use Prim.Native.Nat.{ℕ, zero, suc, ◌+◌, ◌*◌, ◌-◌, ◌/◌, ◌≤◌, min}
use native.Mathlib.Nat.{zero-add, suc-add}
use native.Mathlib.Numerals.{add-one}
use native.Mathlib.Omega.{arith}
use mathlib.Core.Path.{◌≡◌, refl, ap, sym, ◌∙◌}
use mathlib.Core.List.{[], ◌∷◌, ◌++◌}
use lib.ListN.{length, get_or, take, drop, replicate, length-append, length-replicate}
use lib.Seq.{drop-drop, take-append_seam, take-take, take-nil, take_at, length-take-le}
use Rattle.text.specs.Bytes.{Bytes}
use Rattle.rules.specs.Lexemes.{space}
use Rattle.lent.specs.Splice.{splice}
use Rattle.lent.proofs.Writes.{splice-length, splice-append, splice-take-before, splice-drop}
use Rattle.names.specs.Names.{rows_by, name_in, names_in, titles_in, padded}

-- ---- what the code writes

-- a name, and the blanks behind it
pub title-written : (t new new₂ : Bytes) (at : ℕ) (n : Bytes) → new ≡ splice t at n → new₂ ≡ splice new (at + length n) (replicate (8 - length n) space)
    → new₂ ≡ splice t at (padded n)
unfolding padded
title-written t new new₂ at n e f = f ∙ (ap (λ o. splice o (at + length n) (replicate (8 - length n) space)) e ∙ splice-append t at n (replicate (8 - length n) space))

-- ---- rows of a table's front

drop-take : (a m : ℕ) (t : Bytes) → drop a (take (a + m) t) ≡ take m (drop a t)
drop-take zero m t = ap (λ (n : ℕ). take n t) (zero-add m)
drop-take (suc a) m [] = ap (drop (suc a)) (take-nil (suc a + m)) ∙ sym (take-nil m)
drop-take (suc a) m (c ∷ t) = rw suc-add (drop-take a m t)

-- rows whose text is in their own eight bytes
module _ (text : Bytes → Bytes) (own : (m : ℕ) (t : Bytes) → text (take (8 + m) t) ≡ text t) where
  rows_take : (n : ℕ) (t : Bytes) → rows_by text n (take (n * 8) t) ≡ rows_by text n t
  unfolding rows_by
  rows_take zero t = refl
  rows_take (suc n) t =
      let e : suc n * 8 ≡ 8 + n * 8 = omega arith in
      rw (e, own (n * 8) t, drop-take 8 (n * 8) t, rows_take n (drop 8 t))

  rows_more : (n : ℕ) (t : Bytes) → rows_by text (suc n) t ≡ rows_by text n t ++ (text (drop (n * 8) t) ∷ [])
  unfolding rows_by
  rows_more zero t = refl
  rows_more (suc n) t =
      let e : 8 + n * 8 ≡ suc n * 8 = omega arith in
      ap (text t ∷◌) (rows_more n (drop 8 t) ∙ ap (λ r. rows_by text n (drop 8 t) ++ (text r ∷ [])) (drop-drop (n * 8) 8 t ∙ ap (λ (m : ℕ). drop m t) e))

  rows_in : (n : ℕ) (t : Bytes) → n * 8 ≤ length t → rows_by text (length (take (n * 8) t) / 8) (take (n * 8) t) ≡ rows_by text n t
  rows_in n t h =
      let e : length (take (n * 8) t) ≡ n * 8 = length-take-le (n * 8) t h in
      let f : n * 8 / 8 ≡ n = omega arith in
      ap (λ (m : ℕ). rows_by text (m / 8) (take (n * 8) t)) e ∙ (ap (λ (m : ℕ). rows_by text m (take (n * 8) t)) f ∙ rows_take n t)

  -- one row more, whose text is found again
  row_more : (t : Bytes) (k : ℕ) (row n : Bytes) → length row ≤ 8 → ((r : Bytes) → text (row ++ r) ≡ n) → k * 8 + 8 ≤ length t
      → rows_by text (length (take ((k + 1) * 8) (splice t (k * 8) row)) / 8) (take ((k + 1) * 8) (splice t (k * 8) row))
      ≡ rows_by text (length (take (k * 8) t) / 8) (take (k * 8) t) ++ (n ∷ [])
  row_more t k row n h found g =
      let u = splice t (k * 8) row in
      let long : length u ≡ length t = splice-length t (k * 8) row in
      let front : rows_by text k u ≡ rows_by text k t = sym (rows_take k u) ∙ (ap (rows_by text k) (splice-take-before t (k * 8) row (k * 8) (omega arith)) ∙ rows_take k t) in
      let last : text (drop (k * 8) u) ≡ n = ap text (splice-drop t (k * 8) row (omega arith)) ∙ found _ in
      rows_in (k + 1) u (omega arith)
      ∙ (ap (λ (m : ℕ). rows_by text m u) (add-one k)
      ∙ (rows_more k u
      ∙ ((λ i. front i ++ (last i ∷ [])) ∙ ap (◌++ (n ∷ [])) (sym (rows_in k t (omega arith))))))

-- ---- names

name-in-take : (m : ℕ) (t : Bytes) → name_in (take (8 + m) t) ≡ name_in t
unfolding name_in
name-in-take m [] = ap (λ r. take (min (get_or r 0 0) 7) (drop 1 r)) (take-nil (8 + m))
name-in-take m (c ∷ t) = let e : 8 + m ≡ suc (7 + m) = omega arith in rw e (take-take (min c 7) (7 + m) t (omega arith))

name-read : (n : Bytes) → length n ≤ 7 → (r : Bytes) → name_in ((length n ∷ n) ++ r) ≡ n
unfolding name_in
name-read n h r = let e : min (length n) 7 ≡ length n = omega arith in rw e (take-append_seam n r)

-- the names of a table are those before, and the name declared
pub declared-names : (t : Bytes) (k : ℕ) (n : Bytes) → k * 8 + 8 ≤ length t → length n ≤ 7
    → names_in (take ((k + 1) * 8) (splice t (k * 8) (length n ∷ n))) ≡ names_in (take (k * 8) t) ++ (n ∷ [])
unfolding names_in
declared-names t k n g h = row_more name_in name-in-take t k (length n ∷ n) n (omega arith) (name-read n h) g

-- ---- titles

title-in-take : (m : ℕ) (t : Bytes) → take 8 (take (8 + m) t) ≡ take 8 t
title-in-take m t = take-take 8 (8 + m) t (omega arith)

padded-length : (n : Bytes) → length n ≤ 8 → length (padded n) ≡ 8
unfolding padded
padded-length n h = simp (length-append, length-replicate) (omega arith)

-- the titles of a table are those before, and the name with its blanks
pub entitled : (t : Bytes) (k : ℕ) (n : Bytes) → k * 8 + 8 ≤ length t → length n ≤ 8
    → titles_in (take ((k + 1) * 8) (splice t (k * 8) (padded n))) ≡ titles_in (take (k * 8) t) ++ (padded n ∷ [])
unfolding titles_in
entitled t k n g h =
    let e = padded-length n h in
    row_more (take 8) title-in-take t k (padded n) (padded n) (omega arith) (λ r. take_at (padded n) r 8 e) g
