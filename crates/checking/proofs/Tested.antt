-- What numbers 3 and 5 need. Assumes nothing.
use Prim.Native.Nat.{ℕ, suc, ◌+◌, ◌/◌, ◌≤◌}
use native.Mathlib.Omega.{arith}
use mathlib.Core.Path.{◌≡◌, sym}
use mathlib.Core.Bool.{Bool, ◌&&◌, not}
use mathlib.Core.List.{List, [], ◌∷◌}
use lib.Dec.{ltb}
use lib.ListN.{length}
use Rattle.text.specs.Bytes.{Bytes, same}
use Rattle.rules.specs.Choice.{any, count}
use Rattle.rules.specs.Statement.{Set, global}
use Rattle.rules.proofs.Choices.{either}
use Rattle.names.specs.Names.{names_in}
use Rattle.names.proofs.Rows.{names-length}
use Rattle.declaring.specs.Declared.{symbols_in}
use Rattle.checking.specs.Body.{Tables, too_many}

-- the names of a table are as many as its rows
pub global-many : (t : Tables) (locals : ℕ) (operand : Bytes) (k : Set) (n m : ℕ) → n ≡ length (symbols_in operand)
    → m ≡ count (λ n. not (any (same n) (names_in t.shared))) (symbols_in operand)
    → (ltb 0 n && ltb 16 (length t.shared / 8 + m)) ≡ too_many t locals operand (global k)
unfolding too_many
global-many t locals operand k n m e f = λ i. ltb 0 (e i) && ltb 16 (sym (names-length t.shared) i + f i)

-- counts are small: a sum with them does not overflow
pub count-few : {A : Type 0} (test : A → Bool) (l : List A) → count test l ≤ length l
unfolding count
count-few test [] = omega arith
count-few test (a ∷ l) = either (λ (n : ℕ). n ≤ suc (length l)) (test a) (λ e. omega (arith, count-few test l)) (λ e. omega (arith, count-few test l))
