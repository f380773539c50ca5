use Rattle.std.proofs.Common.{◌≡◌, false, ◌+◌, ◌*◌, ◌++◌, length, take}
use Rattle.rules.specs.Choice.{any}
use Rattle.rules.specs.Lexemes.{is_long}
use Rattle.names.specs.Names.{names_in}
use Rattle.operands.specs.Symbols.{symbols_left}
use Rattle.declaring.specs.Declared.{symbols_in}
use Rattle.filling.proofs.append_symbols.Given as goal

abbrev pub invariant-loop-name : goal.invariant-loop-name
invariant-loop-name l =
    let left = symbols_left l.name-iterator in
    (length l.table ≡ length l.initial.table)
    × (any is_long left ≡ false)
    × (l.count + length left ≡ l.rows + length (symbols_in l.operand))
    × (names_in (take (l.count * 8) l.table) ++ left ≡ names_in (take (l.rows * 8) l.initial.table) ++ symbols_in l.operand)
