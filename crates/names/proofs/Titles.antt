-- A name with its blanks, and the row of a macro's name, one byte further. Assumes nothing.
use Prim.Native.Nat.{ℕ, zero, suc, ◌+◌, ◌*◌, ◌-◌, ◌/◌, ◌≤◌, ◌<◌}
use native.Mathlib.Omega.{arith}
use mathlib.Core.Path.{◌≡◌, refl, ap, sym, ◌∙◌}
use mathlib.Core.Bool.{true, false}
use lib.ListN.{length, get_or, take, drop, length-take, length-drop, length-append, length-replicate, get_or-append, get_or-replicate}
use lib.Seq.{get_or-take, get_or-drop, get_or-append-add, length-take-le}
use Rattle.text.specs.Bytes.{Bytes, same}
use Rattle.text.specs.Words.{place_among}
use Rattle.text.proofs.Same.{shorter, differs, agrees, both_end}
use Rattle.rules.specs.Lexemes.{space}
use Rattle.names.specs.Names.{rows_by, titles_in, padded}
use Rattle.names.proofs.Rows.{row_fits}

module _ (name : Bytes) where
  padded-length : length name ≤ 8 → length (padded name) ≡ 8
  unfolding padded
  padded-length h = simp (length-append, length-replicate) (omega arith)

  pub name-byte : (i : ℕ) → i < length name → get_or name i 0 ≡ get_or (padded name) i 0
  unfolding padded
  name-byte i h = sym (get_or-append name _ 0 i h)

  pub blank-byte : (i : ℕ) → length name ≤ i → i < 8 → space ≡ get_or (padded name) i 0
  unfolding padded
  blank-byte i h l =
      let e : i ≡ length name + (i - length name) = omega arith in
      sym (ap (λ (k : ℕ). get_or (padded name) k 0) e ∙ get_or-append-add name _ (i - length name) 0 ∙ get_or-replicate (8 - length name) (i - length name) space 0 (omega arith))

-- a name that is longer than a row is in no row
too-long : (n : ℕ) (t s : Bytes) → 8 < length s → place_among (rows_by (take 8) n t) s ≡ n
unfolding rows_by
too-long zero t s h = refl
too-long (suc n) t s h = rw (shorter (take 8 t) s (simp length-take (omega arith)), place_among) (ap suc (too-long n (drop 8 t) s h))

pub long-name : (t name : Bytes) → 8 < length name → length t / 8 ≡ place_among (titles_in t) (padded name)
unfolding titles_in padded
long-name t name h = sym (too-long (length t / 8) t (padded name) (simp length-append (omega arith)))

-- row k, as far as its byte i
abbrev pub row : Bytes → ℕ → Bytes
row t k = take 8 (drop (k * 8) t)

module _ (t name : Bytes) (k : ℕ) (h : k < length t / 8) (s : length name ≤ 8) (i : ℕ) where
  row-length : length (row t k) ≡ 8
  row-length = length-take-le 8 (drop (k * 8) t) (simp length-drop (omega (arith, row_fits t k h)))

  row-byte : i < 8 → get_or (row t k) i 0 ≡ get_or t (k * 8 + i) 0
  row-byte l = rw (get_or-take, get_or-drop)

  pub byte-differs : i < 8 → (get_or t (k * 8 + i) 0 ≡ get_or (padded name) i 0 → ⊥) → same (drop i (row t k)) (drop i (padded name)) ≡ false
  byte-differs l d = differs (row t k) (padded name) i (rw row-length l) (rw (padded-length name s) l) (λ e. d (sym (row-byte l) ∙ e))

  pub byte-agrees : i < 8 → get_or t (k * 8 + i) 0 ≡ get_or (padded name) i 0
      → same (drop i (row t k)) (drop i (padded name)) ≡ same (drop (i + 1) (row t k)) (drop (i + 1) (padded name))
  byte-agrees l e = agrees (row t k) (padded name) i (rw row-length l) (rw (padded-length name s) l) (row-byte l ∙ e)

  pub whole : 8 ≤ i → same (drop i (row t k)) (drop i (padded name)) ≡ true
  whole l = both_end (row t k) (padded name) i (rw row-length l) (rw (padded-length name s) l)
