use Rattle.std.proofs.Common.{ℕ, ◌≡◌, false, ◌+◌, ◌≤◌, length}
use Rattle.text.specs.Bytes.{Bytes}
use Rattle.rules.specs.Choice.{any}
use Rattle.rules.specs.Lexemes.{is_long}
use Rattle.deck.specs.Coders.{set_code}
use Rattle.kinds.specs.Kinds.{set_of}
use Rattle.operands.specs.Symbols.{symbols_left}
use Rattle.declaring.specs.Declared.{symbols_in}
use Rattle.filling.specs.Added.{Adds}
use Rattle.filling.proofs.add_globals.Given as goal

abbrev pub invariant-loop-name : goal.invariant-loop-name
invariant-loop-name l =
    let left = symbols_left l.name-iterator in
    (length l.shared ≡ length l.initial.shared)
    × (length l.kinds ≡ length l.initial.kinds)
    × (any is_long left ≡ false)
    × (l.count + length left ≤ l.rows + length (symbols_in l.operand))
    × ((sh ki : Bytes) (r : ℕ) → Adds (set_code (set_of l.set)) l.shared l.kinds l.count left sh ki r → Adds (set_code (set_of l.set)) l.initial.shared l.initial.kinds l.rows (symbols_in l.operand) sh ki r)
