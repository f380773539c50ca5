-- Bytes moved to the front of their buffer, one after another. Assumes nothing.
use Prim.Native.Nat.{ℕ, ◌+◌, ◌<◌}
use native.Mathlib.Numerals.{add-one}
use native.Mathlib.Omega.{arith}
use mathlib.Core.Path.{◌≡◌, refl, ap, sym, ◌∙◌}
use mathlib.Core.List.{[], ◌∷◌, ◌++◌}
use lib.ListN.{length, set, take, drop, get_or, length-drop}
use lib.Seq.{take-suc, get_or-drop, length-take-le}
use Rattle.text.specs.Bytes.{Bytes}
use Rattle.lent.specs.Splice.{splice}
use Rattle.lent.proofs.Writes.{splice-append, splice-drop-behind}

-- one more byte behind what is written
byte-behind : (out s : Bytes) (end b : ℕ) → end ≡ length s → set (splice out 0 s) end b ≡ splice out 0 (s ++ (b ∷ []))
unfolding splice
byte-behind out s end b e =
    let behind : end ≡ 0 + length s = omega (arith, e) in
    ap (λ (k : ℕ). set (splice out 0 s) k b) behind ∙ splice-append out 0 s (b ∷ [])

module _ (old : Bytes) (from i : ℕ) where
  abbrev moved : Bytes
  moved = take i (drop from old)

  -- what is read is still as it was: only places before it are written
  read-ahead : length moved ≡ i → get_or (splice old 0 moved) (from + i) 0 ≡ get_or (drop from old) i 0
  read-ahead e =
      let now = splice old 0 moved in
      let turned : from + i ≡ i + from = omega arith in
      ap (λ (k : ℕ). get_or now k 0) turned ∙ (sym (get_or-drop i now from 0) ∙ (ap (λ (l : Bytes). get_or l from 0) (splice-drop-behind old 0 moved i (omega (arith, e))) ∙ (get_or-drop i old from 0 ∙ (ap (λ (k : ℕ). get_or old k 0) (sym turned) ∙ sym (get_or-drop from old i 0)))))

  pub keep-on : (now : Bytes) → now ≡ splice old 0 moved → from + i < length old → set now i (get_or now (from + i) 0) ≡ splice old 0 (take (i + 1) (drop from old))
  keep-on now e h =
      let behind : i < length (drop from old) = rw length-drop (omega (arith, h)) in
      let size : length moved ≡ i = length-take-le i (drop from old) (omega (arith, behind)) in
      let read = ap (λ (l : Bytes). get_or l (from + i) 0) e ∙ read-ahead size in
      ap (λ (l : Bytes). set l i (get_or now (from + i) 0)) e ∙ (ap (set (splice old 0 moved) i) read ∙ (byte-behind old moved i (get_or (drop from old) i 0) (sym size) ∙ ap (splice old 0) (sym (rw add-one (take-suc (drop from old) i 0 behind)))))

pub keep-starts : (old : Bytes) (from : ℕ) → old ≡ splice old 0 (take 0 (drop from old))
unfolding splice
keep-starts old from = refl
