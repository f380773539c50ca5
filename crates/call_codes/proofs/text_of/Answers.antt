use borrow.Author.Rules.{rules}
use Prim.Native.Nat.{◌≤◌}
use Rattle.call_codes.proofs.Scanned.{text-is, other-is}
use Rattle.call_codes.proofs.text_of.Goals as goal

pub returns-then-b-lt127 : goal.returns-then-b-lt127
returns-then-b-lt127 c = text-is c.args.b c.if-b-lt127.true

pub returns-else-b-lt127 : goal.returns-else-b-lt127
returns-else-b-lt127 c =
    let h : 127 ≤ c.args.b = search rules in
    other-is c.args.b h
