-- A table with a symbol in one row more. Assumes nothing.
use Prim.Native.Nat.{ℕ, ◌+◌, ◌*◌, ◌≤◌}
use native.Mathlib.Omega.{arith}
use mathlib.Core.Path.{◌≡◌, ap, sym, ◌∙◌}
use mathlib.Core.List.{List, [], ◌∷◌, ◌++◌, append-nil, append_assoc}
use lib.ListN.{length, take, length-append}
use Rattle.text.specs.Bytes.{Bytes}
use Rattle.lent.specs.Splice.{splice}
use Rattle.names.specs.Names.{rows_by, names_in}
use Rattle.tables.proofs.Grown.{declared-names}

-- no symbol
pub nothing-more : (t : Bytes) (rows : ℕ) {ns : List Bytes} → [] ≡ ns → (rows ≡ rows + length ns) × (names_in (take (rows * 8) t) ≡ names_in (take (rows * 8) t) ++ ns)
nothing-more t rows e =
    let k = ap length e in
    (omega (arith, k), sym (ap (names_in (take (rows * 8) t) ++◌) (sym e) ∙ append-nil (names_in (take (rows * 8) t))))

-- one symbol
pub one_more : (t : Bytes) (rows : ℕ) (n : Bytes) {ns : List Bytes} → n ∷ [] ≡ ns → rows * 8 + 8 ≤ length t → length n ≤ 7 → (new : Bytes) → new ≡ splice t (rows * 8) (length n ∷ n)
    → (rows + 1 ≡ rows + length ns) × (names_in (take ((rows + 1) * 8) new) ≡ names_in (take (rows * 8) t) ++ ns)
one_more t rows n e room fits new f =
    let k = ap length e in (
      omega (arith, k),
      ap (λ (u : Bytes). names_in (take ((rows + 1) * 8) u)) f ∙ (declared-names t rows n room fits ∙ ap (names_in (take (rows * 8) t) ++◌) e),
    )

-- all of them, one after the other
pub names-then : (before after n : Bytes) (ns all : List Bytes) → names_in before ++ (n ∷ ns) ≡ all → names_in after ≡ names_in before ++ (n ∷ []) → names_in after ++ ns ≡ all
names-then before after n ns all h f = ap (◌++ ns) f ∙ (append_assoc (names_in before) (n ∷ []) ns ∙ h)

-- a table from its start on: the name's symbol, and then the operand's
pub from_start : (t : Bytes) (s start ts ns₁ ns₂ : List Bytes) (rows r : ℕ) → s ≡ start → rows ≡ 0 + length start → ns₁ ≡ names_in (take (0 * 8) t) ++ start
    → r ≡ rows + length ts → ns₂ ≡ ns₁ ++ ts → (r ≡ length (s ++ ts)) × (ns₂ ≡ s ++ ts)
unfolding names_in rows_by
from_start t s start ts ns₁ ns₂ rows r e a b c d =
    let k = ap length e in
    (omega (arith, k, a, c, length-append s ts), d ∙ ap (◌++ ts) (b ∙ sym e))
