-- The fields around what the grammar reads. Assumes nothing.
use Prim.Native.Nat.{suc}
use native.Mathlib.Omega.{arith}
use mathlib.Core.Path.{◌≡◌, refl}
use mathlib.Core.Bool.{Bool, true, ◌&&◌, not}
use mathlib.Core.List.{[], ◌∷◌}
use lib.Dec.{eqb}
use lib.ListN.{length}
use borrow.Author.Tests.{ne_eqb}
use Rattle.text.specs.Bytes.{Bytes}
use Rattle.rules.specs.Choice.{every}
use Rattle.rules.specs.Lexemes.{lexed}
use Rattle.rules.specs.Fields.{is_empty}
use Rattle.rules.specs.Calls.{divided}
use Rattle.rules.specs.Library.{is_one_symbol, operand_parts}
use Rattle.rules.specs.Faults.{is_declaration}

pub empty-is : (s : Bytes) → eqb (length s) 0 ≡ is_empty s
unfolding is_empty
empty-is [] = refl
empty-is (b ∷ s) = ne_eqb (suc (length s)) 0 (λ e. omega arith)

pub declaration-is : (name operand : Bytes) (b : Bool) → b ≡ every is_one_symbol (divided (lexed true operand))
    → (eqb (length name) 0 && (not (eqb (length operand) 0) && b)) ≡ is_declaration (record { name = name; gap = []; operation = []; gap₂ = []; operand = operand; remarks = [] })
unfolding is_declaration operand_parts
declaration-is name operand b e = λ i. empty-is name i && (not (empty-is operand i) && e i)
