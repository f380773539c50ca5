use Rattle.std.proofs.Common.{◌≡◌, length}
use Rattle.rules.specs.Faults.{declares_wrongly}
use Rattle.operands.specs.Symbols.{symbols_left}
use Rattle.declaring.specs.Declared.{symbols_in, is_taken}
use Rattle.declaring.proofs.declares_wrongly.Given as goal

abbrev pub invariant-loop-name : goal.invariant-loop-name
invariant-loop-name l =
    declares_wrongly (is_taken l.own l.global) (symbols_in l.operand) ≡ declares_wrongly (is_taken l.own l.global) (symbols_left l.symbols)

abbrev pub decreases-loop-name : goal.decreases-loop-name
decreases-loop-name l = length (symbols_left l.symbols)
