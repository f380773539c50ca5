-- `writing::does_of` meets its contract, by the number. Assumes nothing.
use borrow.Author.Rules.{rules}
use Prim.Native.Nat.{◌≤◌}
use Rattle.writing.proofs.Parts.{sets-numbered}
use Rattle.writing.specs.Bytes.{behind_first}
use Rattle.writing.proofs.does_of.Goals as goal

pub returns-in_default : goal.returns-in_default
unfolding behind_first
returns-in_default c line target name operation operand =
    let h : 8 ≤ c.args.number = search rules in
    sets-numbered c.args.number line target name operation operand h
